-- Pieces that are written one after the other, up to one that is cut.
use Rattle.std.proofs.Common.{◌≡◌, ℕ, zero, suc, ◌+◌, ◌<◌, ◌≤◌, List, [], ◌∷◌, ◌++◌, length, get_or, take, sym, ap, subst, ◌∙◌, inr, arith, append_assoc}
use Rattle.std.specs.Prelude.{Option}
use Rattle.std.specs.List.{flat_map}
use Rattle.std.specs.Io.KnownBytes.{Appends}
use Rattle.std.proofs.KnownBytes.{Appends-trans}
use Rattle.std.proofs.Math.Seq.{take-append-add}
use Rattle.std.proofs.lemmas.List.{take-append-le, length-append}
use Rattle.ice_io.specs.Faults.{Rose}
use Rattle.tool_run.specs.Effects.{Writes}

-- the pieces before one, and some of that one
pub pieces_until : {X : Type 0} (f : X → List ℕ) (xs : List X) (k : ℕ) (d : X) (n : ℕ) → k < length xs → n ≤ length (f (get_or xs k d))
    → flat_map f (take k xs) ++ take n (f (get_or xs k d)) ≡ take (length (flat_map f (take k xs)) + n) (flat_map f xs)
pieces_until f [] k d n lt short = absurd (omega arith)
pieces_until f (x ∷ xs) zero d n lt short = let none : 0 + n ≡ n = omega arith in rw none (sym (take-append-le n (f x) (flat_map f xs) short))
pieces_until f (x ∷ xs) (suc k) d n lt short =
    let front = flat_map f (take k xs) in
    let long : length (f x ++ front) + n ≡ length (f x) + (length front + n) = omega (arith, length-append (f x) front) in
    append_assoc (f x) front (take n (f (get_or xs k d)))
    ∙ ap (λ more. f x ++ more) (pieces_until f xs k d n (omega arith) short)
    ∙ sym (take-append-add (f x) (flat_map f xs) (length front + n))
    ∙ ap (λ m. take m (f x ++ flat_map f xs)) (sym long)

-- a line that was cut at a piece
pub cut_line : {X : Type 0} (f : X → List ℕ) (xs : List X) (k : ℕ) (d : X) (n : ℕ) (held now new : Option (List ℕ)) (faults faults_now new_faults : ℕ) → k < length xs → n < length (f (get_or xs k d))
    → Appends held now (flat_map f (take k xs)) → faults ≤ faults_now → Appends now new (take n (f (get_or xs k d))) → Rose faults_now new_faults → Writes (flat_map f xs) held new faults new_faults
cut_line f xs k d n held now new faults faults_now new_faults lt short before le part rose =
    let appends : List ℕ → Type 0 = λ bytes. Appends held new bytes in
    let whole = Appends-trans held now new (flat_map f (take k xs)) (take n (f (get_or xs k d))) before part in
    inr (length (flat_map f (take k xs)) + n, subst appends (pieces_until f xs k d n lt (omega arith)) whole, omega arith)
