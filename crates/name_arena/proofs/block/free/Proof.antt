-- `free` makes one room of the bytes and what is left, and hands it back with the allocator's token. Assumes `Logic`.
use mathlib.Core.Path.{◌≡◌, refl, sym, ap, subst, ◌∙◌}
use Prim.Native.Nat.{ℕ, ◌<◌, ◌^◌}
use native.Mathlib.Omega.{arith}
use mathlib.Core.List.{List, [], ◌∷◌, ◌++◌}
use lib.Dec.{T, lit<}
use mir.Syntax.{Fn, Args, w64, a_type, dcons, dnil, ty_unit}
use mir.MapTy.{inst_fn}
use mir.Val.{Val, vint, vptr, vunit, has_ty, WT}
use base.Logic.{SProp, id⊢}
use base.Fml.{Lft, Share, ftrue, froom, flft}
use prog.Wp.{Env, WpFn}
use contract.BorrowLft.{◌⊑◌, ⊑_trans}
use contract.Monad.{fact}
use contract.Running.{tables}
use types.Kit.{‵, raw, ◌⊛◌, given, later, prop, at_ret, ◌$◌, ◌∵◌, !, qed, by, move, drop, use1, split, join, group, learn, rewrite, regoal, fsplit, fjoin, feq_i, await}
use types.Part.{whole, sub}
use types.Run.{stop, fld, lit, unit_lit, of_opd, no_more, and_then, first, blocks, exec, returns, enter}
use types.ByLocal.{alloc_all, pass_all, free_all, look_at, get, get_in, sets, lands_last, env}
use denote.Builtin.{usize, RefOf}
use denote.Param.{param, bounded}
use denote.RattleType.{RattleType, owns}
use denote.RawPtr.{Ptr, block_ptr, in_a_block}
use denote.Signature.{plain, types_at}
use denote.Steps.{nothing, heard}
use denote.Triple.Entry.{alive}
use denote.Triple.Call.{calls_at_last}
use denote.Triple.Table.{framed}
use denote.Triple.Walked.{Stays, stay_dropped, walk_of, Goes-dropped}
use Rattle.std.proofs.alloc.Calls.{Al, seen, Goes-blank, Gives, at_gives, Gives-goes, Gives-Gives}
use Rattle.std.proofs.VecSteps.Shapes.{after}
use Rattle.std.proofs.raw_atomic.Walks.{proved_at, leaves}
use Rattle.name_arena.specs.Blocks.{bytes_type, memory_owns}
use Rattle.name_arena.proofs.Blocks.{Memories, Starts, start_val, start_told, empty_val, empty_told, mark_val, mark_told, bytes_size, not_at_null, all_room}
use Rattle.name_arena.specs.contracts.block.Deed as D-type
use Rattle.name_arena.specs.contracts.block.free.{ended, clauses}
use Rattle.name_arena.specs.contracts.block.free.Key.{name as key}
use Rattle.name_arena.proofs.block.free.Statement.{statement}
use Rattle.name_arena.proofs.block.free.Code as code

pub free_spec : {M : Type 1} → statement M
free_spec 𝓤 𝓛 𝓜 𝓡 wired A L g d dd met md =
    let H = 𝓛.H in
    let T' = ended A g d dd in
    let c = clauses A g d dd 𝓛 𝓜.mem 𝓡.returns in
    let args : Args = bounded (a_type ∷ []) (A, tt) (dcons d (dcons dd dnil)) in
    let fn : Fn = inst_fn args code.function in
    let Z : RattleType = param 0 A in
    let Deeds : RattleType = D-type.the_row Z g in
    let hs : Stays T'.signature.params T'.kept =
    (stay_dropped (RefOf (0 ∷ []) tt (plain (λ _. Z)) (λ _. tt)) T'.kept.0, (stay_dropped (plain (λ _. Starts)) T'.kept.1.0, (stay_dropped (plain (λ _. usize)) T'.kept.1.1.0, (stay_dropped (plain (λ _. Memories)) T'.kept.1.1.1.0, (stay_dropped (plain (λ _. Deeds)) T'.kept.1.1.1.1.0, tt))))) in
    let C = (tables 𝓤 H 𝓜 𝓡 𝓡.env).C in
    let Λ = (tables 𝓤 H 𝓜 𝓡 𝓡.env).Λ in
    proved_at 𝓛 T' hs c 𝓜 𝓡
    (Goes-dropped 𝓛 2 (RefOf (0 ∷ []) tt (plain (λ _. Z)) (λ _. tt)) T'.kept.0 (λ κs x f. refl), (Goes-dropped 𝓛 2 (plain (λ _. Starts)) T'.kept.1.0 (λ κs x f. refl), (Goes-dropped 𝓛 2 (plain (λ _. usize)) T'.kept.1.1.0 (λ κs x f. refl), (Goes-blank 𝓛 2 (plain (λ _. Memories)) T'.kept.1.1.1.0 (λ κs x f. tt), (Goes-blank 𝓛 2 (plain (λ _. Deeds)) T'.kept.1.1.1.1.0 (λ κs x f. tt), tt)))))
    (key args) fn (code.unfolded 𝓤 H 𝓜 𝓡 wired (A, tt) d dd) (λ z are.
    let Post : Val → SProp 𝓤 = (walk_of 𝓛 T' hs c).post z in
    let a = z.0.3 in
    let vss = z.0.4 in
    let Y : Al = record { row = A; laws = L; g = g; d = d; drops = dd } in
    let κ : Lft = z.0.0.0 in
    let q : Share = z.0.1.0 in
    let h = a.0.now in
    let at = a.0.ref_ptr in
    let start = a.1.0 in
    let room = a.1.1.0 in
    let memory = a.1.1.1.0 in
    let deed = a.1.1.1.1.0 in
    let τ = bytes_type room in
    let Asked : Type 0 = (memory.at ≡ start.ptr) × (memory.room ≡ room) × (deed.at ≡ start.ptr) × (deed.room ≡ room) × (deed.alloc ≡ h) in
    qed 𝓛 ((raw (alive 𝓛 T'.signature z.0.0 z.0.1) ⊛ ‵ (owns (types_at T'.signature.params z.0.0) a vss)) ∷ (raw (fact 𝓤 (z.0.0.1.0 ⊑ A.lives)) ⊛ raw (fact 𝓤 Asked)) ∷ []) ∵
    move ! (1 ∷ []) $ split ! $ heard ! (z.0.0.1.0 ⊑ A.lives) (λ le. heard ! Asked (λ asked. split ! $ move ! (1 ∷ []) $
    fsplit ! $ fsplit ! $ drop ! $ use1 𝓛 (‵ (seen Y κ at h)) (id⊢ 𝓤 _) $ move ! (1 ∷ []) $
    fsplit ! $ drop ! $ fsplit ! $ drop ! $ fsplit ! $ fsplit ! $ drop ! $
    -- [the memory; the deed; the `&` to the handle; the tokens]
    rewrite ! 0 (λ (p : Ptr). ‵ (memory_owns p memory.room memory.bytes)) asked.0 refl $ rewrite ! 0 (λ (k : ℕ). ‵ (memory_owns start.ptr k memory.bytes)) asked.1 refl $
    in_a_block ! start.ptr (λ p. memory_owns p room memory.bytes) (not_at_null 𝓛 room memory.bytes) (λ b o placed.
    let small : room < 2 ^ 63 = omega (arith, memory.fits.1, asked.1) in
    use1 𝓛 (‵ (froom τ b o)) (all_room 𝓛 b o room memory.bytes (omega (arith, memory.fits.0, asked.1))) $
    move ! (1 ∷ []) $ fsplit ! $ fsplit ! $ drop ! $ move ! (1 ∷ []) $ drop ! $
    rewrite ! 0 (λ (u : A.Denot). ‵ (g.dealloc_token u (bytes_type deed.room) deed.at)) asked.4 refl $ rewrite ! 0 (λ (k : ℕ). ‵ (g.dealloc_token h (bytes_type k) deed.at)) asked.3 refl $ rewrite ! 0 (λ (p : Ptr). ‵ (g.dealloc_token h τ p)) (asked.2 ∙ placed) refl $
    move ! (3 ∷ []) $ use1 𝓛 (‵ (flft κ q) ⊛ ‵ (flft z.0.0.1.0 z.0.1.1.0) ⊛ ‵ ftrue) (id⊢ 𝓤 _) $ split ! $ move ! (3 ∷ 2 ∷ 4 ∷ 0 ∷ []) $
    -- [the room; the allocator's token; the `&` to the handle; its lifetime's token; the other tokens]
    let y = at_gives Y 𝓛 𝓜.mem 𝓡.returns κ q at h b o room 1 τ in
    regoal ! (λ (us : List Val). prop (WpFn 𝓤 H C Λ fn us Post))
    (λ i. are.0.0 i ++ ((start_told start.ptr vss.1.0 are.1.0 ∙ ap (λ (p : Ptr). start_val p ∷ []) placed) i ++ (are.1.1.0.0 i ++ (empty_told vss.1.1.1.0 are.1.1.1.0.0 i ++ (mark_told vss.1.1.1.1.0 are.1.1.1.1.0.0 i ++ []))))) refl $
    enter ! C Λ fn (vptr at.0 at.1 ∷ start_val (block_ptr b o) ∷ vint w64 room ∷ empty_val ∷ mark_val ∷ []) Post $
    alloc_all ! (λ l. pass_all ! refl ((tt, tt), ((tt, (tt, tt)), ((tt, record { fits = are.1.1.0.1 }), ((tt, tt), ((tt, (tt, tt)), tt))))) $
    let En : Env 𝓤 𝓛.H = env fn.locals l in
    first ! $ blocks ! $
    group ! 4 $ use1 𝓛 (raw ((Gives Y 𝓛 𝓜.mem 𝓡.returns).pre y)) (Gives-goes Y 𝓛 𝓜.mem 𝓡.returns κ q at h (⊑_trans κ z.0.0.1.0 A.lives z.0.2.0 le) b o room 1 τ (bytes_size room small) refl (omega (arith, small)) (lit< tt)) $
    calls_at_last ! (framed 𝓤 H 𝓜 (tables 𝓤 H 𝓜 𝓡 𝓡.env)) (Gives Y 𝓛 𝓜.mem 𝓡.returns) (met.deallocate dd) y
    (and_then ! (get ! refl) (and_then ! (get_in ! (fld ! refl (stop !)) (sub ! 0 refl (whole !))) (and_then ! (get ! refl) (and_then ! (lit ! tt) (no_more !))))) (λ v.
    use1 𝓛 (later (given (v ≡ vunit) (‵ (flft κ q)))) (Gives-Gives Y 𝓛 𝓜.mem 𝓡.returns κ q at h b o room 1 τ v) $ await ! tt $ learn ! (λ gone.
    lands_last ! refl (subst (λ (u : Val). T (has_ty ty_unit u) × WT u) (sym gone) (tt, tt)) $ exec ! C Λ En (after 1 fn.body) (at_ret En Post) $
    sets ! (of_opd ! (unit_lit !)) refl (tt, tt) $ returns ! (look_at ! 0 refl) $ free_all ! refl $
    join ! $ feq_i ! (List Val) (vunit ∷ []) (vunit ∷ []) refl $ nothing ! $ nothing ! $ nothing ! $ fjoin ! $ nothing ! $ fjoin ! $ nothing ! $ fjoin ! $ nothing ! $ fjoin ! $ nothing ! $ fjoin ! $ move ! (3 ∷ 0 ∷ 2 ∷ 1 ∷ []) $
    by ! (leaves 𝓛 T' hs c z vunit tt (tt, (tt, (tt, (tt, (tt, tt))))) (tt, (tt, (tt, (tt, (tt, tt)))))))))))))
