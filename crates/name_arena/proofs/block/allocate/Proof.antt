-- `allocate` makes memory in which nothing is written, and keeps the right to give it back. Assumes `Logic`.
use mathlib.Core.Path.{◌≡◌, refl}
use Prim.Native.Nat.{◌<◌, ◌^◌}
use native.Mathlib.Omega.{arith}
use mathlib.Core.List.{List, [], ◌∷◌, ◌++◌}
use lib.Dec.{lit<}
use mir.Syntax.{Fn, Args, Body, w64, a_type, dcons, dnil}
use mir.MapTy.{inst_fn}
use mir.Val.{Val, vint, vptr, vstruct, vcons, vnil}
use base.Logic.{SProp, emp, id⊢}
use base.Fml.{Lft, Share, ftrue, flft}
use prog.Wp.{Env, Wp, WpFn, after_seq, at_return}
use contract.BorrowLft.{◌⊑◌, ⊑_trans}
use contract.Monad.{fact, fact_i}
use contract.Running.{tables}
use types.Kit.{Post as After, any_q, ‵, raw, ◌⊛◌, later, prop, at_ret, ◌$◌, ◌∵◌, !, qed, by, move, drop, use0, use1, use2, use3, split, join, regoal, fsplit, fjoin, await}
use types.Part.{whole, agg}
use types.Match.{live, vrt, in_variant}
use types.Run.{stop, fld, lit, of_opd, no_more, and_then, first, switches_on, exec, returns, enter}
use types.ByLocal.{alloc_all, pass_all, free_all, look_at, get, get_in, get_tag, sets, sets_last, lands_as, env}
use denote.Builtin.{usize, RefOf}
use denote.Exit.{yes}
use denote.Laws.{Is}
use denote.Param.{param, bounded}
use denote.RattleType.{RattleType, owns}
use denote.RawPtr.{Ptr, block_ptr}
use denote.Signature.{plain, types_at, type_at}
use denote.Steps.{nothing, heard, owned}
use denote.Struct.Declared as Declared
use denote.Struct.Struct.{Struct, Struct-Makes}
use denote.Struct.Tuple.{Tuple}
use denote.Triple.Entry.{alive}
use denote.Triple.Call.{calls_at}
use denote.Triple.Table.{framed}
use denote.Triple.Walked.{Stays, stay_dropped, walk_of, Goes-dropped}
use Rattle.std.proofs.alloc.Calls.{Al, seen, Takes, at_takes, Answered, Takes-goes, Takes-gives, answers}
use Rattle.std.proofs.VecSteps.Shapes.{after, head, arm_body}
use Rattle.std.proofs.ResultValues.{ok_of, err_of}
use Rattle.std.proofs.raw_atomic.Walks.{proved_at, leaves}
use Rattle.std.specs.Prelude.{Ok, Err}
use Rattle.std.specs.contracts.alloc.AllocError as AE
use Rattle.name_arena.specs.Blocks.{bytes_type, memory_owns}
use Rattle.name_arena.proofs.Blocks.{Memories, Starts, start_val, start_own, start_made, empty_val, empty_own, empty_made, mark_val, mark_own, mark_made, three_val, three_of, bytes_size, nothing_written}
use Rattle.name_arena.specs.contracts.block.Deed as D-type
use Rattle.name_arena.specs.contracts.block.allocate.{ended, clauses}
use Rattle.name_arena.specs.contracts.block.allocate.Key.{name as key}
use Rattle.name_arena.proofs.block.allocate.Statement.{statement}
use Rattle.name_arena.proofs.block.allocate.Code as code

pub allocate_spec : {M : Type 1} → statement M
allocate_spec 𝓤 𝓛 𝓜 𝓡 wired A L g d dd met md =
    let H = 𝓛.H in
    let T = ended A g d dd in
    let c = clauses A g d dd 𝓛 𝓜.mem 𝓡.returns in
    let args : Args = bounded (a_type ∷ []) (A, tt) (dcons d (dcons dd dnil)) in
    let fn : Fn = inst_fn args code.function in
    let Z : RattleType = param 0 A in
    let hs : Stays T.signature.params T.kept = (stay_dropped (RefOf (0 ∷ []) tt (plain (λ _. Z)) (λ _. tt)) yes, (stay_dropped (plain (λ _. usize)) yes, tt)) in
    let C = (tables 𝓤 H 𝓜 𝓡 𝓡.env).C in
    let Λ = (tables 𝓤 H 𝓜 𝓡 𝓡.env).Λ in
    proved_at 𝓛 T hs c 𝓜 𝓡 (Goes-dropped 𝓛 2 (RefOf (0 ∷ []) tt (plain (λ _. Z)) (λ _. tt)) yes (λ κs x f. refl), (Goes-dropped 𝓛 2 (plain (λ _. usize)) yes (λ κs x f. refl), tt)) (key args) fn (code.unfolded 𝓤 H 𝓜 𝓡 wired (A, tt) d dd) (λ z are.
    let Post : Val → SProp 𝓤 = (walk_of 𝓛 T hs c).post z in
    let a = z.0.3 in
    let vss = z.0.4 in
    let Y : Al = record { row = A; laws = L; g = g; d = d; drops = dd } in
    let κ : Lft = z.0.0.0 in
    let q : Share = z.0.1.0 in
    let h = a.0.now in
    let at = a.0.ref_ptr in
    let room = a.1.0 in
    let τ = bytes_type room in
    let y = at_takes Y 𝓛 𝓜.mem 𝓡.returns κ q at h room 1 τ in
    let Deeds : RattleType = D-type.the_row Z g in
    let Three : RattleType = Tuple (Starts ∷ Memories ∷ Deeds ∷ []) in
    let Out : RattleType = type_at T.signature.result z.0.0 in
    let Asked : Type 0 = room < 2 ^ 63 in
    qed 𝓛 ((raw (alive 𝓛 T.signature z.0.0 z.0.1) ⊛ ‵ (owns (types_at T.signature.params z.0.0) a vss)) ∷ (raw (fact 𝓤 (z.0.0.1.0 ⊑ A.lives)) ⊛ raw (fact 𝓤 Asked)) ∷ []) ∵
    move ! (1 ∷ []) $ split ! $ heard ! (z.0.0.1.0 ⊑ A.lives) (λ le. heard ! Asked (λ asked. split ! $ move ! (1 ∷ []) $
    fsplit ! $ fsplit ! $ drop ! $ move ! (1 ∷ []) $ drop ! $ use1 𝓛 (‵ (seen Y κ at h)) (id⊢ 𝓤 _) $ move ! (1 ∷ []) $ use1 𝓛 (‵ (flft κ q) ⊛ ‵ (flft z.0.0.1.0 z.0.1.1.0) ⊛ ‵ ftrue) (id⊢ 𝓤 _) $ split ! $ move ! (2 ∷ 0 ∷ []) $
    regoal ! (λ (us : List Val). prop (WpFn 𝓤 H C Λ fn us Post)) (λ i. are.0.0 i ++ (are.1.0.0 i ++ [])) refl $
    enter ! C Λ fn (vptr at.0 at.1 ∷ vint w64 room ∷ []) Post $
    alloc_all ! (λ l. pass_all ! refl ((tt, tt), ((tt, record { fits = are.1.0.1 }), tt)) $
    let En : Env 𝓤 𝓛.H = env fn.locals l in
    let both : Body = head (after 1 fn.body) in
    let Then : After 𝓤 H = any_q (after_seq 𝓤 H (Wp 𝓤 H C Λ En (after 2 fn.body) (at_return 𝓤 H En Post)) (at_return 𝓤 H En Post)) in
    -- [the `&` to the handle; its lifetime's token; the other tokens]
    use2 𝓛 (raw ((Takes Y 𝓛 𝓜.mem 𝓡.returns).pre y)) (Takes-goes Y 𝓛 𝓜.mem 𝓡.returns κ q at h (⊑_trans κ z.0.0.1.0 A.lives z.0.2.0 le) room 1 τ (bytes_size room asked) refl (omega (arith, asked)) (lit< tt)) $
    calls_at ! (framed 𝓤 H 𝓜 (tables 𝓤 H 𝓜 𝓡 𝓡.env)) (Takes Y 𝓛 𝓜.mem 𝓡.returns) (met.allocate dd) y (and_then ! (get ! refl) (and_then ! (get ! refl) (and_then ! (lit ! tt) (no_more !)))) (λ v.
    use1 𝓛 (later (raw (Answered Y 𝓛 𝓜.mem 𝓡.returns h τ v) ⊛ ‵ (flft κ q))) (Takes-gives Y 𝓛 𝓜.mem 𝓡.returns κ q at h room 1 τ v) $ await ! tt $ split ! $
    answers Y ! 𝓜.mem 𝓡.returns h τ v
    (λ b o e.
    -- [the room; the token; its lifetime's token; the other tokens]
    let p : Ptr = block_ptr b o in
    let start : Starts.Denot = record { ptr = p } in
    let memory : Memories.Denot = record { at = p; room = room; bytes = []; fits = (omega arith, asked) } in
    let deed : Deeds.Denot = record { marker = record {}; at = p; room = room; alloc = h } in
    let made : Val = three_val (start_val p) empty_val mark_val in
    let Gives : Type 0 = (p ≡ p) × (room ≡ room) × (memory.bytes ≡ []) × (p ≡ p) × (room ≡ room) × (h ≡ h) in
    move ! (2 ∷ 3 ∷ []) $ join ! $ move ! (2 ∷ 1 ∷ []) $
    lands_as ! e refl (tt, (record { fits = lit< tt }, (tt, tt))) $ first ! $ switches_on ! (get_tag ! (vrt ! refl (fld ! refl (stop !))) (whole !)) $ exec ! C Λ En (arm_body 0 both) Then $
    sets ! (of_opd ! (get_in ! (vrt ! refl (fld ! refl (stop !))) (in_variant ! 0 0 refl refl (whole !)))) refl (tt, tt) $
    sets ! (agg ! (and_then ! (get ! refl) (no_more !))) refl (tt, (tt, tt)) $
    sets ! (agg ! (no_more !)) refl (tt, tt) $
    sets ! (agg ! (no_more !)) refl (tt, tt) $
    sets ! (agg ! (and_then ! (get ! refl) (no_more !))) refl (tt, (tt, tt)) $
    sets ! (agg ! (and_then ! (get ! refl) (and_then ! (get ! refl) (and_then ! (get ! refl) (no_more !))))) refl (tt, ((tt, tt), (tt, ((tt, tt), tt)))) $
    sets_last ! (agg ! (and_then ! (lit ! tt) (and_then ! (get ! refl) (no_more !)))) refl (tt, (record { fits = lit< tt }, (((tt, tt), (tt, ((tt, tt), tt))), tt))) $
    exec ! C Λ En (after 2 fn.body) (at_ret En Post) $
    sets ! (of_opd ! (get ! refl)) refl (tt, (record { fits = lit< tt }, (((tt, tt), (tt, ((tt, tt), tt))), tt))) $
    returns ! (look_at ! 0 refl) $ free_all ! refl $
    -- [the token; the room; the tokens]
    use0 𝓛 (‵ (mark_own (mark_val ∷ []))) (mark_made 𝓛) $ fjoin ! $ move ! (1 ∷ []) $
    use1 𝓛 (‵ (memory_owns p room [])) (nothing_written 𝓛 b o room) $ use0 𝓛 (‵ (empty_own (empty_val ∷ []))) (empty_made 𝓛) $ fjoin ! $ use0 𝓛 (‵ (start_own p (start_val p ∷ []))) (start_made 𝓛 p) $
    use3 𝓛 (‵ (Three.own_val (start, memory, deed) (made ∷ []))) (three_of 𝓛 Starts Memories Deeds start memory deed (start_val p) empty_val mark_val) $
    use1 𝓛 (‵ (Out.own_val (Ok (start, memory, deed)) (live 0 (vcons made vnil) ∷ []))) (ok_of 𝓛 Three AE.the_row (start, memory, deed) made) $
    use0 𝓛 (raw (fact 𝓤 Gives)) (fact_i 𝓤 Gives (emp 𝓤) (refl, refl, refl, refl, refl, refl)) $ nothing ! $ nothing ! $ fjoin ! $ nothing ! $ fjoin ! $ move ! (3 ∷ 0 ∷ 2 ∷ 1 ∷ []) $
    by ! (leaves 𝓛 T hs c z (live 0 (vcons made vnil)) (Ok (start, memory, deed)) (tt, (tt, tt)) (tt, (tt, tt))))
    (λ e.
    let Refusal : RattleType = Struct (Declared.shape AE.the_type) in
    let none : Val = live 1 (vcons (vstruct vnil) vnil) in
    join ! $ lands_as ! e refl (tt, (record { fits = lit< tt }, (tt, tt))) $ first ! $ switches_on ! (get_tag ! (vrt ! refl (fld ! refl (stop !))) (whole !)) $ exec ! C Λ En (arm_body 1 both) Then $
    sets ! (of_opd ! (get_in ! (vrt ! refl (fld ! refl (stop !))) (in_variant ! 1 0 refl refl (whole !)))) refl (tt, tt) $
    sets_last ! (agg ! (and_then ! (lit ! tt) (and_then ! (get ! refl) (no_more !)))) refl (tt, (record { fits = lit< tt }, (tt, tt))) $
    exec ! C Λ En (after 2 fn.body) (at_ret En Post) $
    sets ! (of_opd ! (get ! refl)) refl (tt, (record { fits = lit< tt }, (tt, tt))) $
    returns ! (look_at ! 0 refl) $ free_all ! refl $
    owned ! Refusal (Is Refusal) (Struct-Makes 𝓛 (Declared.shape AE.the_type) tt) tt (vstruct vnil ∷ []) (tt, (refl, tt)) $
    use1 𝓛 (‵ (Out.own_val (Err (record {})) (none ∷ []))) (err_of 𝓛 Three AE.the_row (record {}) (vstruct vnil)) $
    use0 𝓛 (raw (fact 𝓤 (Unit {0}))) (fact_i 𝓤 (Unit {0}) (emp 𝓤) tt) $ nothing ! $ nothing ! $ fjoin ! $ nothing ! $ fjoin ! $ move ! (3 ∷ 0 ∷ 2 ∷ 1 ∷ []) $
    by ! (leaves 𝓛 T hs c z none (Err (record {})) (tt, (tt, tt)) (tt, (tt, tt)))))))))
