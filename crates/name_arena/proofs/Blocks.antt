-- What the walks of the functions over a block share. Assumes `Logic`.
--     start, empty, mark      the machine values of a pointer in a struct, of no field, and of one that takes no bytes: what is owned tells them, and is made of nothing
--     Starts, Memories        the rows of the two structs
--     first_left              the room after the bytes begins with room for one byte
--     nothing_written         room for a block is a block in which nothing is written.        all_room      and what a block owns is room for it
use mathlib.Core.Path.{◌≡◌, refl, sym, ap, subst, ◌∙◌}
use Prim.Native.Nat.{ℕ, suc, ◌+◌, ◌-◌, ◌≤◌, ◌<◌, ◌^◌}
use native.Mathlib.Nat.{mul-one}
use native.Mathlib.Omega.{arith}
use mathlib.Core.List.{List, [], ◌∷◌, ◌++◌}
use lib.ListN.{length}
use seplogic.Ra.Ura.{Ura}
use base.Fraction.{full_share}
use mir.Syntax.{w8, ty_int}
use mir.Val.{Val, vstruct, vcons, vnil, of_list}
use base.Logic.{ent, sep, emp, fst∗, never}
use base.Fml.{Fml, feq, fsep, froom}
use prog.Memory.{size, capped}
use prog.Capped.{capped_is}
use types.Logic.{Logic, sem}
use types.Kit.{Goal, Seq, Item, ‵, ◌$◌, ◌∵◌, !, qed, move, use1, use2, drop, fsplit, fjoin, fpick, fpack, feq_i, feq_l, rewrite, done}
use denote.RattleType.{RattleType, Valss}
use denote.Array.{Array}
use denote.Builtin.{u8}
use denote.Memory.{part_at}
use denote.RawPtr.{Ptr, RawPtr, block_ptr, null_ptr, ptr_val}
use denote.RawPtr.Bytes.{bytes, bytes_apart, bytes_whole, bytes-room}
use denote.RawPtr.Room.{past_bytes, room_glue}
use denote.Shadow.{shadow, makes_shadow}
use denote.Steps.{nothing}
use denote.Struct.Declared as Declared
use denote.Struct.Struct.{Struct, within}
use denote.Struct.Tuple.{Tuple, tuple_type}
use Rattle.name_arena.specs.Blocks.{bytes_type, left, memory_owns}
use Rattle.name_arena.specs.contracts.block.Memory as M-type
use Rattle.name_arena.specs.contracts.block.Start as S-type

abbrev pub Memories : RattleType
Memories = M-type.the_row

abbrev pub Starts : RattleType
Starts = S-type.the_row

-- a struct by its fields alone: what it owns does not read its name
abbrev plainly : List RattleType → RattleType
plainly Rs = Struct (record { name = []; args = []; types = []; fields = Rs })

abbrev pub start_val : Ptr → Val
start_val p = vstruct (vcons (ptr_val p) vnil)

abbrev pub start_own : Ptr → List Val → Fml
start_own p = (plainly (RawPtr ∷ [])).own_val (p, tt)

pub start_told : (p : Ptr) (vs : List Val) → shadow (start_own p vs) → vs ≡ start_val p ∷ []
start_told p vs s = s.1.0 ∙ (λ i. vstruct (of_list (s.1.1.0 i ++ [])) ∷ [])

abbrev pub empty_val : Val
empty_val = vstruct vnil

abbrev pub empty_own : List Val → Fml
empty_own = (plainly []).own_val tt

pub empty_told : (vs : List Val) → shadow (empty_own vs) → vs ≡ empty_val ∷ []
empty_told vs s = s.1.0

abbrev pub mark_val : Val
mark_val = vstruct (vcons (vstruct vnil) vnil)

abbrev pub mark_own : List Val → Fml
mark_own = (plainly (plainly [] ∷ [])).own_val (tt, tt)

pub mark_told : (vs : List Val) → shadow (mark_own vs) → vs ≡ mark_val ∷ []
mark_told vs s = s.1.0 ∙ (λ i. vstruct (of_list (s.1.1.0.1.0 i ++ [])) ∷ [])

abbrev pub three_val : Val → Val → Val → Val
three_val u v w = vstruct (vcons u (vcons v (vcons w vnil)))

-- a block's type has its size
pub bytes_size : (room : ℕ) → room < 2 ^ 63 → capped (size (bytes_type room)) ≡ room
bytes_size room small = ap capped (mul-one room) ∙ capped_is room (omega arith)

module _ {M : Type 1} {𝓤 : Ura M} (𝓛 : Logic 𝓤) where
  open 𝓛 use {H}

  pub start_made : (p : Ptr) → ent 𝓤 (emp 𝓤) (sem 𝓛 (start_own p (start_val p ∷ [])))
  start_made p = makes_shadow 𝓛 (start_own p (start_val p ∷ [])) (λ _. (tt, (tt, tt))) ((ptr_val p ∷ [], tt), (refl, (refl, tt)))

  pub empty_made : ent 𝓤 (emp 𝓤) (sem 𝓛 (empty_own (empty_val ∷ [])))
  empty_made = makes_shadow 𝓛 (empty_own (empty_val ∷ [])) (λ _. (tt, tt)) (tt, (refl, tt))

  pub mark_made : ent 𝓤 (emp 𝓤) (sem 𝓛 (mark_own (mark_val ∷ [])))
  mark_made = makes_shadow 𝓛 (mark_own (mark_val ∷ [])) (λ _. (tt, ((λ _. (tt, tt)), tt))) ((vstruct vnil ∷ [], tt), (refl, ((tt, (refl, tt)), tt)))

  pub three_of : (R S T : RattleType) (x : R.Denot) (y : S.Denot) (z : T.Denot) (u v w : Val)
      → ent 𝓤 (sep 𝓤 (sem 𝓛 (R.own_val x (u ∷ []))) (sep 𝓤 (sem 𝓛 (S.own_val y (v ∷ []))) (sem 𝓛 (T.own_val z (w ∷ []))))) (sem 𝓛 ((Tuple (R ∷ S ∷ T ∷ [])).own_val (x, y, z) (three_val u v w ∷ [])))
  three_of R S T x y z u v w =
      qed 𝓛 (‵ (R.own_val x (u ∷ [])) ∷ ‵ (S.own_val y (v ∷ [])) ∷ ‵ (T.own_val z (w ∷ [])) ∷ []) ∵ nothing ! $ move ! (3 ∷ 0 ∷ []) $ fjoin ! $ move ! (2 ∷ 0 ∷ []) $ fjoin ! $ move ! (1 ∷ 0 ∷ []) $ fjoin ! $
      feq_i ! (List Val) (three_val u v w ∷ []) (three_val u v w ∷ []) refl $ fjoin ! $
      fpack ! (Valss (R ∷ S ∷ T ∷ [])) (within (Declared.shape (tuple_type (R ∷ S ∷ T ∷ []))) (x, (y, (z, tt))) (three_val u v w ∷ [])) (u ∷ [], (v ∷ [], (w ∷ [], tt))) $ done !

  -- nothing lies at null
  pub not_at_null : (room : ℕ) (xs : List ℕ) → ent 𝓤 (sem 𝓛 (memory_owns null_ptr room xs)) (never 𝓤)
  not_at_null room xs = fst∗ 𝓤 (never 𝓤) (sem 𝓛 (left null_ptr room xs))

  pub first_left : (b o n room : ℕ) → n < room → ent 𝓤 (H.room (bytes_type (room - n)) b (o + n)) (sep 𝓤 (H.room (ty_int w8) b (n + o)) (H.room (bytes_type (room - (n + 1))) b (o + (n + 1))))
  first_left b o n room more =
      let k = room - (n + 1) in
      let count : suc k ≡ room - n = omega arith in
      let here : o + n ≡ n + o = omega arith in
      let next : o + n + 1 ≡ o + (n + 1) = omega arith in
      subst (λ (j : ℕ). ent 𝓤 (H.room (bytes_type j) b (o + n)) (sep 𝓤 (H.room (ty_int w8) b (n + o)) (H.room (bytes_type k) b (o + (n + 1))))) count
      (subst (λ (j : ℕ). ent 𝓤 (H.room (bytes_type (suc k)) b (o + n)) (sep 𝓤 (H.room (ty_int w8) b j) (H.room (bytes_type k) b (o + (n + 1))))) here
      (subst (λ (j : ℕ). ent 𝓤 (H.room (bytes_type (suc k)) b (o + n)) (sep 𝓤 (H.room (ty_int w8) b (o + n)) (H.room (bytes_type k) b j))) next
      (𝓛.laws.room_uncons (ty_int w8) k b (o + n))))

  pub nothing_written : (b o room : ℕ) → ent 𝓤 (H.room (bytes_type room) b o) (sem 𝓛 (memory_owns (block_ptr b o) room []))
  nothing_written b o room =
      let count : room ≡ room - 0 = omega arith in
      let here : o ≡ o + 0 = omega arith in
      qed 𝓛 (‵ (froom (bytes_type room) b o) ∷ []) ∵
      rewrite ! 0 (λ (k : ℕ). ‵ (froom (bytes_type k) b o)) count refl $ rewrite ! 0 (λ (k : ℕ). ‵ (froom (bytes_type (room - 0)) b k)) here refl $
      nothing ! $ feq_i ! ℕ 0 0 refl $ fjoin ! $ use1 𝓛 (‵ (part_at (Array u8 0) full_share [] b o)) (bytes_whole 𝓛 full_share 0 [] b o) $ fjoin ! $ done !

  pub all_room : (b o room : ℕ) (xs : List ℕ) → length xs ≤ room → ent 𝓤 (sem 𝓛 (memory_owns (block_ptr b o) room xs)) (H.room (bytes_type room) b o)
  all_room b o room xs within =
      let n = length xs in
      let count : n + (room - n) ≡ room = omega arith in
      qed 𝓛 (‵ (memory_owns (block_ptr b o) room xs) ∷ []) ∵ fsplit ! $
      use1 𝓛 (‵ (fsep (feq ℕ n n) (bytes full_share xs b o))) (bytes_apart 𝓛 full_share n xs b o) $ fsplit ! $ drop ! $
      use1 𝓛 (‵ (froom (bytes_type n) b o)) (bytes-room 𝓛 xs b o) $
      rewrite ! 1 (λ (k : ℕ). ‵ (froom (bytes_type (room - n)) b k)) (sym (past_bytes n o)) refl $
      use2 𝓛 (‵ (froom (bytes_type (n + (room - n))) b o)) (room_glue 𝓛 (ty_int w8) n (room - n) b o) $
      rewrite ! 0 (λ (k : ℕ). ‵ (froom (bytes_type k) b o)) count refl $ done !

module _ {M : Type 1} {𝓤 : Ura M} {𝓛 : Logic 𝓤} {K : Type 0} {Γ : List (Item 𝓤)} {G : Goal 𝓤 𝓛.H} where
  pub start_had : K → (p : Ptr) (vs : List Val) → (vs ≡ start_val p ∷ [] → Seq K 𝓛 Γ G) → Seq K 𝓛 (‵ (start_own p vs) ∷ Γ) G
  start_had t p vs k = fpick t (λ vss. fsplit t $ feq_l t (λ ev. fsplit t $ feq_l t (λ e. drop t $ k (subst (λ (ws : List Val). vs ≡ vstruct (of_list (ws ++ [])) ∷ []) e ev))))
