-- Reading tokens that have to come next.
use Rattle.std.proofs.Common.{◌≡◌, ℕ, Bool, true, false, List, [], ◌∷◌, ◌++◌, refl, ap, ◌∙◌}
use Rattle.std.specs.Prelude.{Result, Ok, Err, if◌then◌else◌}
use Rattle.vlog_tokens.specs.Tokens.{TokenValue, Spot}
use Rattle.vlog_forms.specs.Values.{is_same_token}
use Rattle.vlog_forms.specs.Items.{tokens_in}
use Rattle.vlog_forms.specs.Reading.{read_tokens}
use Rattle.vlog_forms.proofs.Tokens.{token-same, same-token, IsReal}

whole_step : (b : Bool) (wanted : TokenValue) (more : List TokenValue) (first : Spot) (spots rest : List Spot) (stuck : ℕ) (left : Result (List Spot) ℕ)
    → is_same_token wanted first.token ≡ b → (if b then left else Err stuck) ≡ Ok rest
    → (left ≡ Ok rest → tokens_in spots ≡ more ++ tokens_in rest) → first.token ∷ tokens_in spots ≡ wanted ∷ (more ++ tokens_in rest)
whole_step true wanted more first spots rest stuck left same reads following =
    let head : wanted ≡ first.token = token-same wanted first.token same in
    let tail : tokens_in spots ≡ more ++ tokens_in rest = following reads in
    cc
whole_step false wanted more first spots rest stuck left same reads following = absurd cc

-- what is read is in the text
pub read_tokens-whole : (end : ℕ) (wanted : List TokenValue) (spots rest : List Spot) → read_tokens end wanted spots ≡ Ok rest → tokens_in spots ≡ wanted ++ tokens_in rest
read_tokens-whole end [] spots rest reads = let same : spots ≡ rest = cc in ap tokens_in same
read_tokens-whole end (wanted ∷ more) [] rest reads = absurd cc
read_tokens-whole end (wanted ∷ more) (first ∷ spots) rest reads =
    whole_step (is_same_token wanted first.token) wanted more first spots rest first.offset (read_tokens end more spots) refl reads (read_tokens-whole end more spots rest)

-- tokens without a stray byte
abbrev pub AreReal : List TokenValue → Type 0
AreReal [] = Unit {0}
AreReal (one ∷ more) = IsReal one × AreReal more

-- spots after some tokens, and the tokens that they have
abbrev pub After : Result (List Spot) ℕ → List TokenValue → Type 0
After reading tail = (rest : List Spot) × (reading ≡ Ok rest) × (tokens_in rest ≡ tail)

exact_step : (wanted : TokenValue) (first : Spot) (left : Result (List Spot) ℕ) (tail : List TokenValue)
    → IsReal wanted → first.token ≡ wanted → After left tail → After (if is_same_token wanted first.token then left else Err first.offset) tail
exact_step wanted first left tail real same following =
    let passes : is_same_token wanted first.token ≡ true = rw same (same-token wanted real) in
    (following.0, ap (λ b. if b then left else Err first.offset) passes ∙ following.1, following.2)

-- what is in the text is read
pub read_tokens-exact : (end : ℕ) (wanted : List TokenValue) (spots : List Spot) (tail : List TokenValue) → AreReal wanted → tokens_in spots ≡ wanted ++ tail → After (read_tokens end wanted spots) tail
read_tokens-exact end [] spots tail real stands = (spots, refl, stands)
read_tokens-exact end (wanted ∷ more) [] tail real stands = absurd cc
read_tokens-exact end (wanted ∷ more) (first ∷ spots) tail real stands =
    let head : first.token ≡ wanted = cc in
    let following : tokens_in spots ≡ more ++ tail = cc in
    exact_step wanted first (read_tokens end more spots) tail real.0 head (read_tokens-exact end more spots tail real.1 following)
