-- What a call says that didn't fail, by the result that was made of its own.
use Rattle.std.proofs.Common.{◌≡◌, ℕ, List, true, sym, ap, ◌∙◌, true≢false}
use Rattle.std.specs.Prelude.{Result, Ok, Err, is_ok, OnOk, IfOk, IfErr}

-- a fact of a call that didn't fail
pub ok-fact : {A B C : Type 0} (called : Result A B) (made : Result A C) (x : A) (P : Type 0) → is_ok made ≡ is_ok called → made ≡ Ok x → OnOk called P → P
ok-fact (Ok y) made x P same is fact = fact
ok-fact (Err e) made x P same is fact = absurd (true≢false (sym (ap (λ (r : Result _ _). is_ok r) is) ∙ same))

-- that it didn't fail
pub ok-test : {A B C : Type 0} (called : Result A B) (made : Result A C) (x : A) → is_ok made ≡ is_ok called → made ≡ Ok x → is_ok called ≡ true
ok-test called made x same is = sym same ∙ ap (λ (r : Result _ _). is_ok r) is

-- a fact of the answer by two others
pub ok-both : {A B : Type 0} (answer : Result A B) (P : Type 0) (Q R : A → Type 0) → OnOk answer P → IfOk answer Q → ((x : A) → P → Q x → R x) → IfOk answer R
ok-both (Ok x) P Q R here there both = both x here there
ok-both (Err e) P Q R here there both = tt

-- ---- what holds for each text

pub ok-each : {A E : Type 0} (answer : Result A E) (I : List ℕ → Type 0) (P : List ℕ → A → Type 0) → ((text : List ℕ) → I text → IfOk answer (P text)) → IfOk answer (λ x. (text : List ℕ) → I text → P text x)
ok-each (Ok x) I P each = each
ok-each (Err e) I P each = tt

pub err-each : {A E : Type 0} (answer : Result A E) (I : List ℕ → Type 0) (P : List ℕ → E → Type 0) → ((text : List ℕ) → I text → IfErr answer (P text)) → IfErr answer (λ e. (text : List ℕ) → I text → P text e)
err-each (Ok x) I P each = tt
err-each (Err e) I P each = each

-- holds for one
pub ok-at : {A E : Type 0} (answer : Result A E) (I : List ℕ → Type 0) (P : List ℕ → A → Type 0) → IfOk answer (λ x. (text : List ℕ) → I text → P text x) → (text : List ℕ) → I text → IfOk answer (P text)
ok-at (Ok x) I P each text here = each text here
ok-at (Err e) I P each text here = tt

pub err-at : {A E : Type 0} (answer : Result A E) (I : List ℕ → Type 0) (P : List ℕ → E → Type 0) → IfErr answer (λ e. (text : List ℕ) → I text → P text e) → (text : List ℕ) → I text → IfErr answer (P text)
err-at (Ok x) I P each text here = tt
err-at (Err e) I P each text here = each text here
