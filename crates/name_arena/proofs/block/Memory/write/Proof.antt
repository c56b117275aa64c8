-- `write` fills the first byte of the room after the bytes. Assumes `Logic`.
use mathlib.Core.Path.{◌≡◌, refl, sym, subst, ◌∙◌}
use Prim.Native.Nat.{ℕ, ◌+◌, ◌-◌, ◌<◌, ◌^◌}
use native.Mathlib.Omega.{arith}
use mathlib.Core.List.{List, [], ◌∷◌, ◌++◌}
use lib.ListN.{length, length-append}
use seplogic.Ra.Ura.{Ura}
use base.Fraction.{full_share}
use mir.Syntax.{named, w8, w64, ty_int}
use mir.Val.{Val, vptr, vint, vunit}
use base.Logic.{SProp, ent, id⊢}
use base.Fml.{Lft, GName, Share, ftrue, feq, fsep, fat, froom, flft, fobs, fbor}
use prog.Memory.{Memory}
use prog.Routine.{Routine}
use prog.Wp.{Env, Calls, Loops, WpFn, Tables}
use types.Logic.{Logic}
use contract.Monad.{Fun}
use contract.Running.{tables, tables_of}
use sound.WpLaws.{WpFn-mono}
use types.Kit.{Item, ⋆, ‵, ◌⊛◌, at_ret, ◌$◌, ◌∵◌, !, qed, by, move, keep, drop, use1, use2, split, join, rewrite, fsplit, fsplit3, fjoin, fjoin3, feq_i, feq_l, flt_l, suffices, frame}
use types.Part.{whole, sub}
use types.Run.{init, stop, fld, unit_lit, of_opd, bin, assigns_last, first, blocks, exec, returns, enter}
use types.ByLocal.{alloc_all, pass_all, free_all, look_at, get, get_in, through, sets, take_at, give_at, env}
use types.SemTy.{Body as Borrowed}
use denote.Array.{Array}
use denote.Builtin.{u8, usize}
use denote.Exit.{yes}
use denote.Memory.{part_at, mem}
use denote.Param.{layout}
use denote.Plain.{uint_in}
use denote.RattleType.{owns}
use denote.RawPtr.{Ptr, in_a_block}
use denote.RawPtr.Bytes.{bytes, bytes_apart, bytes_glue, bytes_whole}
use denote.Ref.{MutBor, MutRef}
use denote.Signature.{plain}
use denote.Steps.{nothing, opens, closes}
use denote.Triple.Clauses.{Clauses, closing}
use denote.Triple.Entry.{on_entry}
use denote.Triple.Spec.{Meets, triple_of}
use denote.Triple.Table.{entered}
use denote.Triple.Walked.{says, needs, Stays, stay_dropped, stay_ref, walk_of, ends_at, Goes-dropped, Goes-ref, walk_Meets}
use Rattle.std.proofs.VecSteps.Shapes.{after}
use Rattle.std.proofs.RcSteps.{word-Good}
use Rattle.name_arena.specs.Blocks.{bytes_type, memory_owns}
use Rattle.name_arena.proofs.Blocks.{Memories, Starts, start_val, start_had, not_at_null, first_left}
use Rattle.name_arena.specs.contracts.block.Memory.write as f
use Rattle.name_arena.specs.contracts.block.Memory.write.Key.{name as key}
use Rattle.name_arena.proofs.block.Memory.write.Statement.{statement}
use Rattle.name_arena.proofs.block.Memory.write.Code as code

abbrev stayed : Stays f.ended.signature.params f.ended.kept
stayed = (stay_ref (0 ∷ []) tt (plain (λ _. Memories)), (stay_dropped (plain (λ _. Starts)) yes, (stay_dropped (plain (λ _. usize)) yes, (stay_dropped (plain (λ _. u8)) yes, tt))))

abbrev Asks : Memories.Denot → Starts.Denot → ℕ → Type 0
Asks d start place = (start.ptr ≡ d.at) × (place ≡ length d.bytes) × (place < d.room)

module _ {M : Type 1} {𝓤 : Ura M} (𝓛 : Logic 𝓤) (at_mem : Memory → SProp 𝓤) (run : Routine → Fun 𝓤) where
  open 𝓛 use {H}

  abbrev clauses : Clauses 𝓤 f.ended
  clauses = f.clauses 𝓛 at_mem run

  module _ (C : Calls 𝓤 H) (Λ : Loops 𝓤 H) (κ : Lft) (q : Share) (rb ro : ℕ) (γ : GName) (d : Memories.Denot) (start : Starts.Denot) (place byte : ℕ) (us0 us1 us2 us3 : List Val) where
    abbrev self : MutBor Memories.Denot
    self = record { ref_ptr = (rb, ro); ghost_name = γ; now = d }

    abbrev bound : (walk_of 𝓛 f.ended stayed clauses).Ghost
    bound = (((κ, tt), (q, tt), tt, (self, (start, (place, (byte, tt)))), (us0, (us1, (us2, (us3, tt))))), tt)

    abbrev Post : Val → SProp 𝓤
    Post = (walk_of 𝓛 f.ended stayed clauses).post bound

    exits : us0 ≡ vptr rb ro ∷ [] → (new : Memories.Denot) → (new.at ≡ d.at) × (new.room ≡ d.room) × (new.bytes ≡ d.bytes ++ byte ∷ [])
        → ent 𝓤 (⋆ 𝓛 (‵ (fobs γ (Memories.coded.code new)) ∷ ‵ (fbor κ (Borrowed (mem Memories) rb ro γ)) ∷ ‵ (flft κ q) ∷ [])) (Post vunit)
    exits passed new gives =
        qed 𝓛 (‵ (fobs γ (Memories.coded.code new)) ∷ ‵ (fbor κ (Borrowed (mem Memories) rb ro γ)) ∷ ‵ (flft κ q) ∷ []) ∵
        feq_i ! (List Val) (vunit ∷ []) (vunit ∷ []) refl $ move ! (1 ∷ 2 ∷ 3 ∷ 0 ∷ []) $
        suffices ! _ (ends_at 𝓛 f.ended stayed clauses bound vunit tt (new, (tt, (tt, (tt, tt)))) (tt, (tt, (tt, (tt, tt))))) $ says ! gives $
        nothing ! $ move ! (3 ∷ 0 ∷ []) $ join ! $ frame ! $ feq_i ! (List Val) us0 (vptr rb ro ∷ []) passed $ fjoin3 ! $
        nothing ! $ nothing ! $ fjoin ! $ nothing ! $ fjoin ! $ nothing ! $ fjoin ! $ move ! (1 ∷ 0 ∷ []) $ fjoin ! $ frame ! $ by ! (id⊢ 𝓤 _)

    abbrev Had : List (Item 𝓤)
    Had = ‵ (fobs γ (Memories.coded.code d)) ∷ ‵ (fbor κ (Borrowed (mem Memories) rb ro γ)) ∷ ‵ (flft κ q) ∷ []

    walk : us0 ≡ vptr rb ro ∷ [] → Asks d start place → place < 2 ^ 64 → byte < 2 ^ 8 → ent 𝓤 (⋆ 𝓛 Had) (WpFn 𝓤 H C Λ code.function (vptr rb ro ∷ start_val start.ptr ∷ vint w64 place ∷ vint w8 byte ∷ []) Post)
    walk passed asked fits_place fits_byte =
        let xs = d.bytes in
        let n = length xs in
        let ys = xs ++ byte ∷ [] in
        let longer : length ys ≡ n + 1 = length-append xs (byte ∷ []) in
        let new : Memories.Denot = record { at = d.at; room = d.room; bytes = ys; fits = (omega (arith, longer, asked.1, asked.2), d.fits.1) } in
        qed 𝓛 Had ∵ enter ! C Λ code.function (vptr rb ro ∷ start_val start.ptr ∷ vint w64 place ∷ vint w8 byte ∷ []) _ $
        alloc_all ! (λ l. pass_all ! refl ((tt, tt), (word-Good [] start.ptr, ((tt, record { fits = fits_place }), ((tt, record { fits = fits_byte }), tt)))) $
        let En : Env 𝓤 H = env (code.function).locals l in
        opens ! tt Memories {h = d} rb ro (λ vs. move ! (1 ∷ []) $ fsplit ! $ move ! (1 ∷ []) $
        in_a_block ! d.at (λ p. memory_owns p d.room xs) (not_at_null 𝓛 d.room xs) (λ b o e. fsplit ! $
        use1 𝓛 (‵ (fsep (feq ℕ n n) (bytes full_share xs b o))) (bytes_apart 𝓛 full_share n xs b o) $ fsplit ! $ drop ! $ move ! (1 ∷ []) $
        use1 𝓛 (‵ (froom (ty_int w8) b (n + o)) ⊛ ‵ (froom (bytes_type (d.room - (n + 1))) b (o + (n + 1)))) (first_left 𝓛 b o n d.room (omega (arith, asked.1, asked.2))) $ split ! $
        rewrite ! 0 (λ (k : ℕ). ‵ (froom (ty_int w8) b (k + o))) (sym asked.1) refl $
        take_at ! 2 $ rewrite ! 0 (λ (p : Ptr). ‵ (fat full_share (layout Starts) (l 2) 0 (start_val p))) (asked.0 ∙ e) refl $ give_at ! 2 $
        -- [room for the byte; the room after it; the bytes; the fields; their cell; the open borrow, in three entries]
        first ! $ blocks ! $
        sets ! (bin ! (get_in ! (fld ! refl (stop !)) (sub ! 0 refl (whole !))) (get ! refl) tt) refl (tt, tt) $
        assigns_last ! (of_opd ! (get ! refl)) (through ! refl (stop !)) (init ! 0 refl (tt, record { fits = fits_byte })) $
        exec ! C Λ En (after 1 (code.function).body) (at_ret En Post) $ sets ! (of_opd ! (unit_lit !)) refl (tt, tt) $
        let place_is : place + o ≡ o + n = omega (arith, asked.1) in
        rewrite ! 0 (λ (k : ℕ). ‵ (fat full_share (ty_int w8) b k (vint w8 byte))) place_is refl $
        use1 𝓛 (‵ (part_at u8 full_share byte b (o + n))) (uint_in 𝓛 full_share w8 byte b (o + n)) $ nothing ! $ move ! (1 ∷ 0 ∷ []) $ fjoin ! $
        move ! (2 ∷ 0 ∷ []) $ use2 𝓛 (‵ (bytes full_share ys b o)) (bytes_glue 𝓛 full_share xs (byte ∷ []) b o) $
        feq_i ! ℕ (length ys) (length ys) refl $ fjoin ! $ use1 𝓛 (‵ (part_at (Array u8 (length ys)) full_share ys b o)) (bytes_whole 𝓛 full_share (length ys) ys b o) $
        rewrite ! 1 (λ (k : ℕ). ‵ (froom (bytes_type (d.room - k)) b (o + k))) (sym longer) refl $ fjoin ! $
        rewrite ! 0 (λ (p : Ptr). ‵ (memory_owns p d.room ys)) (sym e) refl $ move ! (1 ∷ 0 ∷ []) $ fjoin ! $ move ! (1 ∷ 0 ∷ []) $ closes ! tt Memories new vs rb ro $
        returns ! (look_at ! 0 refl) $ free_all ! refl $ keep ! (0 ∷ 1 ∷ 2 ∷ []) $ by ! (exits passed new (refl, refl, refl)))))

    entry : Asks d start place → ent 𝓤 (on_entry 𝓛 f.signature (κ, tt) (q, tt) (self, (start, (place, (byte, tt)))) (us0, (us1, (us2, (us3, tt))))) (WpFn 𝓤 H C Λ code.function (us0 ++ (us1 ++ (us2 ++ (us3 ++ [])))) Post)
    entry asked =
        qed 𝓛 ((‵ (flft κ q) ⊛ ‵ ftrue) ∷ ‵ (owns (MutRef (named 0) κ Memories ∷ Starts ∷ usize ∷ u8 ∷ []) (self, (start, (place, (byte, tt)))) (us0, (us1, (us2, (us3, tt))))) ∷ []) ∵
        split ! $ move ! (2 ∷ []) $ fsplit ! $ fsplit3 ! $ feq_l ! (λ e0.
        move ! (2 ∷ []) $ fsplit ! $ start_had ! start.ptr us1 (λ e1.
        fsplit ! $ fsplit ! $ feq_l ! (λ e2. flt_l ! (λ fits_place.
        fsplit ! $ fsplit ! $ feq_l ! (λ e3. flt_l ! (λ fits_byte.
        keep ! (1 ∷ 2 ∷ 3 ∷ []) $
        by ! (subst (λ (ws : List Val × List Val × List Val × List Val). ent 𝓤 (⋆ 𝓛 Had) (WpFn 𝓤 H C Λ code.function (ws.0 ++ (ws.1 ++ (ws.2 ++ (ws.3 ++ [])))) Post)) (λ j. (sym e0 j, sym e1 j, sym e2 j, sym e3 j)) (walk e0 asked fits_place fits_byte))))))))

  meets : (𝓣 : Tables 𝓤 H) → Meets 𝓛 f.signature (WpFn 𝓤 H 𝓣.C 𝓣.Λ code.function) (closing 𝓛 f.ended clauses)
  meets 𝓣 =
      walk_Meets 𝓛 f.ended stayed (Goes-ref 𝓛 1 0 tt (plain (λ _. Memories)), (Goes-dropped 𝓛 1 (plain (λ _. Starts)) yes (λ κs x g. refl), (Goes-dropped 𝓛 1 (plain (λ _. usize)) yes (λ κs x g. refl), (Goes-dropped 𝓛 1 (plain (λ _. u8)) yes (λ κs x g. refl), tt))))
      clauses (WpFn 𝓤 H 𝓣.C 𝓣.Λ code.function) (WpFn-mono 𝓤 H 𝓛.laws 𝓣 code.function)
      (λ z. needs 𝓤 (Asks z.0.3.0.now z.0.3.1.0 z.0.3.1.1.0) _
      (entry 𝓣.C 𝓣.Λ z.0.0.0 z.0.1.0 z.0.3.0.ref_ptr.0 z.0.3.0.ref_ptr.1 z.0.3.0.ghost_name z.0.3.0.now z.0.3.1.0 z.0.3.1.1.0 z.0.3.1.1.1.0 z.0.4.0 z.0.4.1.0 z.0.4.1.1.0 z.0.4.1.1.1.0))

pub write_spec : {M : Type 1} → statement M
unfolding tables_of
write_spec 𝓤 𝓛 𝓜 𝓡 wired =
    let 𝓣 : Tables 𝓤 𝓛.H = tables_of 𝓤 𝓛.H 𝓜 (tables 𝓤 𝓛.H 𝓜 𝓡 𝓡.env) in
    entered 𝓤 𝓛.H (triple_of 𝓛 f.signature (f.spec 𝓛 𝓜.mem 𝓡.returns)) 𝓣.C 𝓣.Λ key code.function (code.unfolded 𝓤 𝓛.H 𝓜 𝓡 wired) (meets 𝓛 𝓜.mem 𝓡.returns 𝓣)
