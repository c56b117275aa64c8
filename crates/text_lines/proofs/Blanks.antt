-- Blanks at the end of a line.
use Rattle.std.proofs.Common.{◌∙◌, inl, inr, ◌≡◌, ℕ, ◌+◌, ◌-◌, ◌<◌, ◌≤◌, true, false, List, [], ◌∷◌, ◌++◌, length, take, get_or, refl, sym, ap, arith}
use Rattle.std.proofs.lemmas.Bool.{cases_Bool}
use Rattle.std.proofs.lemmas.List.{take_more}
use Rattle.std.proofs.lemmas.List.Elements.{All-head, All-tail, All-nil, All-cons}
use Rattle.std.specs.Prelude.{All}
use Rattle.text_lines.specs.Lines.{is_blank, before_rest, trimmed}

-- a byte that is no blank stays
before_rest-inner : (byte : ℕ) (rest : List ℕ) → is_blank byte ≡ false → before_rest byte rest ≡ byte ∷ rest
before_rest-inner byte [] inner = rw inner refl
before_rest-inner byte (next ∷ rest) inner = refl

-- a byte before a trimmed rest
before_rest-trimmed : (byte : ℕ) (rest : List ℕ) → trimmed rest ≡ rest → trimmed (before_rest byte rest) ≡ before_rest byte rest
unfolding trimmed
before_rest-trimmed byte [] same =
    elim (cases_Bool (is_blank byte)) [
      | inl blank ↦ rw blank refl
      | inr inner ↦ rw (before_rest-inner byte [] inner) (before_rest-inner byte [] inner)
    ]
before_rest-trimmed byte (next ∷ rest) same = ap (before_rest byte) same

All-before_rest : (P : ℕ → Type 0) (byte : ℕ) (rest : List ℕ) → P byte → All P rest → All P (before_rest byte rest)
All-before_rest P byte [] here all =
    elim (cases_Bool (is_blank byte)) [
      | inl blank ↦ rw blank (All-nil P)
      | inr inner ↦ rw inner (All-cons P byte [] here all)
    ]
All-before_rest P byte (next ∷ rest) here all = All-cons P byte (next ∷ rest) here all

-- an empty line
pub trimmed-nothing : trimmed [] ≡ []
unfolding trimmed
trimmed-nothing = refl

-- a blank at the end goes
pub trimmed-blank : (line : List ℕ) (byte : ℕ) → is_blank byte ≡ true → trimmed (line ++ (byte ∷ [])) ≡ trimmed line
unfolding trimmed
trimmed-blank [] byte blank = rw blank refl
trimmed-blank (first ∷ line) byte blank = ap (before_rest first) (trimmed-blank line byte blank)

-- a line whose last byte is no blank stays
pub trimmed-kept : (line : List ℕ) (byte : ℕ) → is_blank byte ≡ false → trimmed (line ++ (byte ∷ [])) ≡ line ++ (byte ∷ [])
unfolding trimmed
trimmed-kept [] byte inner = rw inner refl
trimmed-kept (first ∷ []) byte inner = ap (before_rest first) (trimmed-kept [] byte inner)
trimmed-kept (first ∷ second ∷ line) byte inner = ap (before_rest first) (trimmed-kept (second ∷ line) byte inner)

-- a blank at the end goes, by the place of the last byte
pub trimmed-take_blank : (line : List ℕ) (end : ℕ) → 0 < end → end ≤ length line → is_blank (get_or line (end - 1) 0) ≡ true → trimmed (take (end - 1) line) ≡ trimmed (take end line)
trimmed-take_blank line end some within blank =
    let last : end - 1 + 1 ≡ end = omega arith in
    let split : take end line ≡ take (end - 1) line ++ (get_or line (end - 1) 0 ∷ []) = rw last at (take_more line (end - 1) 0 (omega arith)) in
    rw split (sym (trimmed-blank (take (end - 1) line) (get_or line (end - 1) 0) blank))

-- and if that byte is no blank
pub trimmed-take_kept : (line : List ℕ) (end : ℕ) → 0 < end → end ≤ length line → is_blank (get_or line (end - 1) 0) ≡ false → trimmed (take end line) ≡ take end line
trimmed-take_kept line end some within inner =
    let last : end - 1 + 1 ≡ end = omega arith in
    let split : take end line ≡ take (end - 1) line ++ (get_or line (end - 1) 0 ∷ []) = rw last at (take_more line (end - 1) 0 (omega arith)) in
    rw split (trimmed-kept (take (end - 1) line) (get_or line (end - 1) 0) inner)

-- a first byte that is no blank
before_rest-first : (byte : ℕ) (rest : List ℕ) → is_blank byte ≡ false → get_or (before_rest byte rest) 0 0 ≡ byte
before_rest-first byte [] inner = rw inner refl
before_rest-first byte (next ∷ rest) inner = refl

-- what begins with a byte began with it before
before_rest-begins : (byte first : ℕ) (rest : List ℕ) → 0 < first → get_or (before_rest byte rest) 0 0 ≡ first → byte ≡ first
before_rest-begins byte first [] some begins =
    elim (cases_Bool (is_blank byte)) [
      | inl blank ↦ let none : 0 ≡ first = rw blank at begins in absurd (omega arith)
      | inr inner ↦ rw inner at begins
    ]
before_rest-begins byte first (next ∷ rest) some begins = begins

-- a first byte that is no blank stays the first
pub first-trimmed : (line : List ℕ) (byte : ℕ) → is_blank byte ≡ false → get_or line 0 0 ≡ byte → get_or (trimmed line) 0 0 ≡ byte
unfolding trimmed
first-trimmed [] byte inner begins = begins
first-trimmed (first ∷ line) byte inner begins = before_rest-first first (trimmed line) (ap is_blank begins ∙ inner) ∙ begins

-- the first byte of what is left was the first before
pub first-from_trimmed : (line : List ℕ) (byte : ℕ) → 0 < byte → get_or (trimmed line) 0 0 ≡ byte → get_or line 0 0 ≡ byte
unfolding trimmed
first-from_trimmed [] byte some begins = begins
first-from_trimmed (first ∷ line) byte some begins = before_rest-begins first byte (trimmed line) some begins

-- a line that begins with a dot still begins with it
pub dot-trimmed : (line : List ℕ) → get_or line 0 0 ≡ 46 → get_or (trimmed line) 0 0 ≡ 46
dot-trimmed line begins = first-trimmed line 46 refl begins

-- and no other line begins with a dot then
pub dot-from_trimmed : (line : List ℕ) → get_or (trimmed line) 0 0 ≡ 46 → get_or line 0 0 ≡ 46
dot-from_trimmed line begins = first-from_trimmed line 46 (omega arith) begins

-- a line that begins with a dot, by its first byte
pub trimmed-dot : (rest : List ℕ) → trimmed (46 ∷ rest) ≡ 46 ∷ trimmed rest
unfolding trimmed
trimmed-dot rest = before_rest-inner 46 (trimmed rest) refl

-- a line that has been trimmed once stays
pub trimmed-trimmed : (line : List ℕ) → trimmed (trimmed line) ≡ trimmed line
unfolding trimmed
trimmed-trimmed [] = refl
trimmed-trimmed (byte ∷ line) = before_rest-trimmed byte (trimmed line) (trimmed-trimmed line)

-- what holds of each byte holds of those that are left
pub All-trimmed : (P : ℕ → Type 0) (line : List ℕ) → All P line → All P (trimmed line)
unfolding trimmed
All-trimmed P [] all = all
All-trimmed P (byte ∷ line) all = All-before_rest P byte (trimmed line) (All-head P byte line all) (All-trimmed P line (All-tail P byte line all))
