-- `read` shows the bytes that a `&` lends. Assumes `Logic`.
use mathlib.Core.Path.{◌≡◌, refl, sym, ap, subst, ◌∙◌}
use Prim.Native.Nat.{ℕ, ◌*◌, ◌<◌, ◌^◌}
use native.Mathlib.Omega.{arith}
use mathlib.Core.List.{List, [], ◌∷◌, ◌++◌}
use lib.ListN.{length}
use seplogic.Ra.Ura.{Ura}
use base.Fraction.{full_share}
use mir.Syntax.{named, w64}
use mir.Val.{Val, vptr, vint}
use base.Logic.{SProp, ent}
use base.Fml.{Lft, Share, ftrue, fat, flft}
use prog.Memory.{Memory}
use prog.Routine.{Routine}
use prog.Wp.{Env, Calls, Loops, WpFn, Tables}
use types.Logic.{Logic}
use contract.Monad.{Fun, fact}
use contract.Running.{tables, tables_of}
use sound.WpLaws.{WpFn-mono}
use types.Kit.{Item, ⋆, ‵, raw, ◌⊛◌, at_ret, ◌$◌, ◌∵◌, !, qed, by, move, keep, drop, use1, split, join, rewrite, fsplit, fjoin, feq_i, feq_l, flt_i, flt_l, suffices, frame, done}
use types.Part.{whole, sub, agg}
use types.Run.{stop, fld, of_opd, and_then, no_more, first, blocks, exec, returns, enter}
use types.ByLocal.{alloc_all, pass_all, free_all, look_at, get, get_in, sets, sets_last, take_at, give_at, env}
use denote.Builtin.{u8, usize, RefOf}
use denote.Exit.{yes}
use denote.Memory.{hidden_shr}
use denote.Opens.{hide, unhide}
use denote.Param.{layout}
use denote.RattleType.{owns}
use denote.RawPtr.{Ptr, InBlock, block_of, count_of, at_block}
use denote.Ref.{Bor, ShrRef}
use denote.Signature.{plain}
use denote.Slice.{ShrSlice, slice_val}
use denote.Steps.{nothing, heard}
use denote.Struct.Lending.{in_block_says}
use denote.Triple.Clauses.{Clauses, closing}
use denote.Triple.Entry.{on_entry}
use denote.Triple.Spec.{Meets, triple_of}
use denote.Triple.Table.{entered}
use denote.Triple.Walked.{says, needs, Stays, stay_dropped, walk_of, ends_at, Goes-dropped, walk_Meets}
use Rattle.std.proofs.VecSteps.Shapes.{after}
use Rattle.std.proofs.RcSteps.{word-Good}
use Rattle.name_arena.proofs.Blocks.{Memories, Starts, start_val, start_had}
use Rattle.name_arena.specs.contracts.block.Memory.read as f
use Rattle.name_arena.specs.contracts.block.Memory.read.Key.{name as key}
use Rattle.name_arena.proofs.block.Memory.read.Statement.{statement}
use Rattle.name_arena.proofs.block.Memory.read.Code as code

abbrev stayed : Stays f.ended.signature.params f.ended.kept
stayed = (stay_dropped (RefOf (0 ∷ []) tt (plain (λ _. Memories)) (λ _. tt)) yes, (stay_dropped (plain (λ _. Starts)) yes, (stay_dropped (plain (λ _. usize)) yes, tt)))

abbrev Asks : Memories.Denot → Starts.Denot → ℕ → Type 0
Asks d start count = (start.ptr ≡ d.at) × (count ≡ length d.bytes)

module _ {M : Type 1} {𝓤 : Ura M} (𝓛 : Logic 𝓤) (at_mem : Memory → SProp 𝓤) (run : Routine → Fun 𝓤) where
  open 𝓛 use {H}

  abbrev clauses : Clauses 𝓤 f.ended
  clauses = f.clauses 𝓛 at_mem run

  module _ (C : Calls 𝓤 H) (Λ : Loops 𝓤 H) (κ : Lft) (q : Share) (rb ro : ℕ) (d : Memories.Denot) (start : Starts.Denot) (count : ℕ) (us0 us1 us2 : List Val) where
    abbrev self : Bor Memories.Denot
    self = record { ref_ptr = (rb, ro); now = d }

    abbrev bound : (walk_of 𝓛 f.ended stayed clauses).Ghost
    bound = (((κ, tt), (q, tt), tt, (self, (start, (count, tt))), (us0, (us1, (us2, tt)))), tt)

    abbrev Post : Val → SProp 𝓤
    Post = (walk_of 𝓛 f.ended stayed clauses).post bound

    exits : (r : (ShrSlice (named 0) κ u8).Denot) (v : Val) → r.now ≡ d.bytes → ent 𝓤 (⋆ 𝓛 (‵ (flft κ q) ∷ ‵ ((ShrSlice (named 0) κ u8).own_val r (v ∷ [])) ∷ [])) (Post v)
    exits r v gives =
        qed 𝓛 (‵ (flft κ q) ∷ ‵ ((ShrSlice (named 0) κ u8).own_val r (v ∷ [])) ∷ []) ∵
        suffices ! _ (ends_at 𝓛 f.ended stayed clauses bound v r (tt, (tt, (tt, tt))) (tt, (tt, (tt, tt)))) $ says ! gives $
        nothing ! $ move ! (1 ∷ 0 ∷ []) $ join ! $ frame ! $ nothing ! $ nothing ! $ fjoin ! $ nothing ! $ fjoin ! $ nothing ! $ fjoin ! $ done !

    abbrev Had : List (Item 𝓤)
    Had = ‵ (hidden_shr Memories κ d rb ro) ∷ ‵ (flft κ q) ∷ []

    walk : Asks d start count → count < 2 ^ 64 → ent 𝓤 (⋆ 𝓛 Had) (WpFn 𝓤 H C Λ code.function (vptr rb ro ∷ start_val start.ptr ∷ vint w64 count ∷ []) Post)
    walk asked fits_count =
        let xs = d.bytes in
        let at : ℕ × ℕ = (block_of d.at, count_of d.at) in
        qed 𝓛 Had ∵ enter ! C Λ code.function (vptr rb ro ∷ start_val start.ptr ∷ vint w64 count ∷ []) _ $
        alloc_all ! (λ l. pass_all ! refl ((tt, tt), (word-Good [] start.ptr, ((tt, record { fits = fits_count }), tt))) $
        let En : Env 𝓤 H = env (code.function).locals l in
        unhide ! $ fsplit ! $ drop ! $ fsplit ! $ use1 𝓛 (raw (fact 𝓤 (InBlock d.at))) (in_block_says 𝓛 d.at) $ heard ! (InBlock d.at) (λ there. fsplit ! $ drop ! $ hide ! $
        take_at ! 2 $ rewrite ! 0 (λ (p : Ptr). ‵ (fat full_share (layout Starts) (l 2) 0 (start_val p))) (asked.0 ∙ at_block d.at there) refl $ give_at ! 2 $
        first ! $ blocks ! $
        sets_last ! (agg ! (and_then ! (get_in ! (fld ! refl (stop !)) (sub ! 0 refl (whole !))) (and_then ! (get ! refl) (no_more !)))) refl (tt, (tt, (record { fits = fits_count }, tt))) $
        exec ! C Λ En (after 1 (code.function).body) (at_ret En Post) $ sets ! (of_opd ! (get ! refl)) refl (tt, (tt, (record { fits = fits_count }, tt))) $
        flt_i ! (length xs * 1) (2 ^ 63) (omega (arith, d.fits.0, d.fits.1)) $ flt_i ! (length xs) (2 ^ 64) (omega (arith, d.fits.0, d.fits.1)) $ fjoin ! $
        feq_i ! (List Val) (slice_val at count ∷ []) (slice_val at (length xs) ∷ []) (ap (λ k. slice_val at k ∷ []) asked.1) $ fjoin ! $ fjoin ! $
        returns ! (look_at ! 0 refl) $ free_all ! refl $ keep ! (1 ∷ 0 ∷ []) $ by ! (exits (record { ref_ptr = at; now = xs }) (slice_val at count) refl)))

    entry : Asks d start count → ent 𝓤 (on_entry 𝓛 f.signature (κ, tt) (q, tt) (self, (start, (count, tt))) (us0, (us1, (us2, tt)))) (WpFn 𝓤 H C Λ code.function (us0 ++ (us1 ++ (us2 ++ []))) Post)
    entry asked =
        qed 𝓛 ((‵ (flft κ q) ⊛ ‵ ftrue) ∷ ‵ (owns (ShrRef (named 0) κ Memories ∷ Starts ∷ usize ∷ []) (self, (start, (count, tt))) (us0, (us1, (us2, tt)))) ∷ []) ∵
        split ! $ move ! (2 ∷ []) $ fsplit ! $ fsplit ! $ feq_l ! (λ e0.
        move ! (1 ∷ []) $ fsplit ! $ start_had ! start.ptr us1 (λ e1.
        fsplit ! $ fsplit ! $ feq_l ! (λ e2. flt_l ! (λ fits_count.
        keep ! (1 ∷ 2 ∷ []) $
        by ! (subst (λ (ws : List Val × List Val × List Val). ent 𝓤 (⋆ 𝓛 Had) (WpFn 𝓤 H C Λ code.function (ws.0 ++ (ws.1 ++ (ws.2 ++ []))) Post)) (λ j. (sym e0 j, sym e1 j, sym e2 j)) (walk asked fits_count))))))

  meets : (𝓣 : Tables 𝓤 H) → Meets 𝓛 f.signature (WpFn 𝓤 H 𝓣.C 𝓣.Λ code.function) (closing 𝓛 f.ended clauses)
  meets 𝓣 =
      walk_Meets 𝓛 f.ended stayed (Goes-dropped 𝓛 1 (RefOf (0 ∷ []) tt (plain (λ _. Memories)) (λ _. tt)) yes (λ κs x g. refl), (Goes-dropped 𝓛 1 (plain (λ _. Starts)) yes (λ κs x g. refl), (Goes-dropped 𝓛 1 (plain (λ _. usize)) yes (λ κs x g. refl), tt)))
      clauses (WpFn 𝓤 H 𝓣.C 𝓣.Λ code.function) (WpFn-mono 𝓤 H 𝓛.laws 𝓣 code.function)
      (λ z. needs 𝓤 (Asks z.0.3.0.now z.0.3.1.0 z.0.3.1.1.0) _
      (entry 𝓣.C 𝓣.Λ z.0.0.0 z.0.1.0 z.0.3.0.ref_ptr.0 z.0.3.0.ref_ptr.1 z.0.3.0.now z.0.3.1.0 z.0.3.1.1.0 z.0.4.0 z.0.4.1.0 z.0.4.1.1.0))

pub read_spec : {M : Type 1} → statement M
unfolding tables_of
read_spec 𝓤 𝓛 𝓜 𝓡 wired =
    let 𝓣 : Tables 𝓤 𝓛.H = tables_of 𝓤 𝓛.H 𝓜 (tables 𝓤 𝓛.H 𝓜 𝓡 𝓡.env) in
    entered 𝓤 𝓛.H (triple_of 𝓛 f.signature (f.spec 𝓛 𝓜.mem 𝓡.returns)) 𝓣.C 𝓣.Λ key code.function (code.unfolded 𝓤 𝓛.H 𝓜 𝓡 wired) (meets 𝓛 𝓜.mem 𝓡.returns 𝓣)
