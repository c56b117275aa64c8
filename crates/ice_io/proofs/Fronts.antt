-- The first bytes of a file, and what follows them.
use Rattle.std.proofs.Common.{arith, ◌≡◌, ◌∙◌, ℕ, ◌+◌, ◌<◌, ◌≤◌, List, [], ◌++◌, Option, Some, None, length, drop, refl, sym, ap, append_assoc, append-nil, length-append}
use Rattle.std.proofs.Math.Seq.{drop-append_seam}
use Rattle.std.proofs.lemmas.List.{nil_from_length}
use Rattle.std.specs.Prelude.{MatchOption, IsSomeAnd}
use Rattle.std.specs.FinMap.{get}
use Rattle.ice_io.specs.Files.{EndsBefore, FileMap, HasFile, HasFront, HasMore, HasPart, TakesFrontOf}
use Rattle.ice_io.proofs.Takers.{TakesMore-none}

-- a file that may be missing begins with these bytes
abbrev Begins : Option (List ℕ) → List ℕ → Type 0
Begins found bytes = MatchOption found (bytes ≡ []) (λ all. (rest : List ℕ) × (all ≡ bytes ++ rest))

-- from that place on it has these
abbrev Holds : Option (List ℕ) → ℕ → List ℕ → Type 0
Holds found at bytes = IsSomeAnd found (λ all. (rest : List ℕ) × (drop at all ≡ bytes ++ rest))

begins-none : (found : Option (List ℕ)) → Begins found []
begins-none None = refl
begins-none (Some all) = (all, refl)

begins-more : (found : Option (List ℕ)) (bytes piece : List ℕ) (at : ℕ) → length bytes ≡ at → Begins found bytes → Holds found at piece → Begins found (bytes ++ piece)
begins-more None bytes piece at here begins holds = absurd holds
begins-more (Some all) bytes piece at here begins holds =
    let rest : drop at all ≡ begins.0 = ap (λ n. drop n all) (sym here) ∙ ap (drop (length bytes)) begins.1 ∙ drop-append_seam bytes begins.0 in
    (holds.0, begins.1 ∙ ap (λ more. bytes ++ more) (sym rest ∙ holds.1) ∙ sym (append_assoc bytes piece holds.0))

begins-all : (found : Option (List ℕ)) (bytes : List ℕ) (at : ℕ) → length bytes ≡ at → Begins found bytes → IsSomeAnd found (λ all. length all ≤ at) → found ≡ Some bytes
begins-all None bytes at here begins ends = absurd ends
begins-all (Some all) bytes at here begins ends =
    let long : length all ≡ length bytes + length begins.0 = ap length begins.1 ∙ length-append bytes begins.0 in
    let none : begins.0 ≡ [] = nil_from_length begins.0 (omega (arith, ends)) in
    ap Some (begins.1 ∙ ap (λ rest. bytes ++ rest) none ∙ append-nil bytes)

begins-long : (found : Option (List ℕ)) (bytes piece : List ℕ) (at limit : ℕ) → length bytes ≡ at → limit < at + length piece → Begins found bytes → Holds found at piece → IsSomeAnd found (λ all. limit < length all)
begins-long None bytes piece at limit here more begins holds = absurd holds
begins-long (Some all) bytes piece at limit here more begins holds =
    let both = begins-more (Some all) bytes piece at here begins holds in
    let long : length all ≡ length bytes + length piece + length both.0 = ap length both.1 ∙ length-append (bytes ++ piece) both.0 ∙ ap (λ n. n + length both.0) (length-append bytes piece) in
    omega arith

-- no byte is the front of a file
pub HasFront-none : (files : Option FileMap) (name : List ℕ) → HasFront files name []
HasFront-none None name = tt
HasFront-none (Some files) name = begins-none (get files name)

-- the front of a file, and what follows it
pub HasFront-more : (files : Option FileMap) (name bytes piece : List ℕ) (at : ℕ) → length bytes ≡ at → HasFront files name bytes → HasPart files name at piece → HasFront files name (bytes ++ piece)
HasFront-more None name bytes piece at here front part = tt
HasFront-more (Some files) name bytes piece at here front part = begins-more (get files name) bytes piece at here front part

-- the front of a file that has no byte after it is the file
pub HasFront-all : (files : Option FileMap) (name bytes : List ℕ) (at : ℕ) → length bytes ≡ at → HasFront files name bytes → EndsBefore files name at → HasFile files name bytes
HasFront-all None name bytes at here front ends = tt
HasFront-all (Some files) name bytes at here front ends = begins-all (get files name) bytes at here front ends

-- a front and what follows it are more than a limit
pub HasFront-long : (files : Option FileMap) (name bytes piece : List ℕ) (at limit : ℕ) → length bytes ≡ at → limit < at + length piece → HasFront files name bytes → HasPart files name at piece → HasMore files name limit
HasFront-long None name bytes piece at limit here more front part = tt
HasFront-long (Some files) name bytes piece at limit here more front part = begins-long (get files name) bytes piece at limit here more front part

-- of a file, nothing was taken
pub TakesFrontOf-none : {Setting T : Type 0} (has_taken : Setting → T → List ℕ → Type 0) (files : Option FileMap) (name : List ℕ) (t : T) → TakesFrontOf files name has_taken t t
TakesFrontOf-none has_taken files name t = ([], HasFront-none files name, TakesMore-none has_taken t)
