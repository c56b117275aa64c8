-- The names of tokens are names, their words have 16 bits, and so have those of the values that are read.
use Rattle.std.proofs.Common.{◌≡◌, ℕ, zero, suc, ◌<◌, ◌+◌, ◌-◌, ◌*◌, ◌==◌, Bool, true, false, not, List, [], ◌∷◌, ◌++◌, take, drop, map, cond, refl, ap, ◌∙◌, subst, arith}
use Rattle.std.proofs.lemmas.Bool.Decides.{nat_tests}
use Rattle.std.specs.Prelude.{Ok, Option, Some, None, if◌then◌else◌, bytes_eq}
use Rattle.std.specs.List.{list_all, list_any}
use Rattle.std.proofs.lemmas.Bool.{and_from, or_from, or_left}
use Rattle.vlog_tokens.proofs.Spelled.{all_words, among}
use Rattle.shared_lemmas.proofs.Bytes.{apart_turned}
use Rattle.vlog_tokens.specs.declared.fixed.Fixed.{Fixed}
use Rattle.vlog_tokens.specs.Bytes.{is_blank, is_letter, is_digit, is_name_byte, byte_at, hex_value, is_bit_text, is_word_text, word_value, number_value}
use Rattle.vlog_tokens.specs.Fixed.{word_of, pair_of, sign_of}
use Rattle.vlog_tokens.specs.Tokens.{TokenValue, Spot, spot, spots_from, spots_at, front_token, front_length, name_length, name_or_word, word_or_name, digits_token, sign_token, first_sign}
use Rattle.vlog_tokens.specs.Tokens.{TokenValue as token}
use Rattle.vlog_module.specs.declared.atoms.Atom.TheVariants as atom
use Rattle.vlog_module.specs.Names.{IsName, is_name, is_word, is_reserved, reserved_words}
use Rattle.vlog_forms.specs.declared.slot.Slot.{Slot}
use Rattle.vlog_forms.specs.Values.{Value, value_tokens}
use Rattle.vlog_forms.specs.Values.Value.{Name, Edge, Bit, Word, Index, AnAtom}
use Rattle.vlog_forms.specs.Layout.{takes_value, exact_tokens, filled}
use Rattle.vlog_forms.specs.Items.{tokens_in}
use Rattle.vlog_forms.specs.Reading.{Found, values_of, read_slots}
use Rattle.vlog_forms.proofs.SlotLists.{FitAll, FitsFirst, slots-stand, filled-took, filled-passed}

-- ---- tokens

-- a name that isn't reserved, or a word of 16 bits
abbrev pub IsSoundToken : TokenValue → Type 0
IsSoundToken (token.name text) = IsName text
IsSoundToken (token.word word) = word < 65536
IsSoundToken _ = Unit {0}

abbrev pub AreSoundTokens : List TokenValue → Type 0
AreSoundTokens [] = Unit {0}
AreSoundTokens (one ∷ more) = IsSoundToken one × AreSoundTokens more

-- the bytes at the front that a name may have
all_step : (b : Bool) (byte : ℕ) (bytes : List ℕ) → is_name_byte byte ≡ b → list_all is_name_byte (take (name_length bytes) bytes) ≡ true
    → list_all is_name_byte (take (cond (not (not b)) (1 + name_length bytes) 0) (byte ∷ bytes)) ≡ true
all_step true byte bytes is more =
    let one : 1 + name_length bytes ≡ suc (name_length bytes) = omega arith in
    ap (λ n. list_all is_name_byte (take n (byte ∷ bytes))) one ∙ and_from (is_name_byte byte) (list_all is_name_byte (take (name_length bytes) bytes)) is more
all_step false byte bytes is more = refl

front-all : (bytes : List ℕ) → list_all is_name_byte (take (name_length bytes) bytes) ≡ true
front-all [] = refl
front-all (byte ∷ bytes) = all_step (is_name_byte byte) byte bytes refl (front-all bytes)

front-word : (bytes : List ℕ) → is_letter (byte_at bytes 0) ≡ true → is_word (take (name_length bytes) bytes) ≡ true
front-word [] letter = absurd cc
front-word (byte ∷ bytes) letter =
    let named : is_name_byte byte ≡ true = or_left (is_letter byte) (is_digit byte) letter in
    let one : 1 + name_length bytes ≡ suc (name_length bytes) = omega arith in
    let long : name_length (byte ∷ bytes) ≡ suc (name_length bytes) = ap (λ b. cond (not (not b)) (1 + name_length bytes) 0) named ∙ one in
    ap (λ n. is_word (take n (byte ∷ bytes))) long ∙ and_from (is_letter byte) (list_all is_name_byte (take (name_length bytes) bytes)) letter (front-all bytes)

-- a word that isn't reserved is among none of the reserved words
words_step : (b : Bool) (word : List ℕ × Fixed) (rest : Option Fixed) → (if b then Some word.1 else rest) ≡ None → (b ≡ false) × (rest ≡ None)
words_step true word rest none = absurd cc
words_step false word rest none = (refl, none)

abbrev first_of : (List ℕ × Fixed) → List ℕ
first_of word = word.0

none-among_words : (words : List (List ℕ × Fixed)) (text : List ℕ) → among (bytes_eq text) words ≡ None → list_any (λ word. bytes_eq word text) (map first_of words) ≡ false
unfolding among
none-among_words [] text none = refl
none-among_words (word ∷ words) text none =
    let parts = words_step (bytes_eq text word.0) word (among (bytes_eq text) words) none in
    or_from (bytes_eq word.0 text) (list_any (λ other. bytes_eq other text) (map first_of words)) (apart_turned text word.0 parts.0) (none-among_words words text parts.1)

none-reserved : (text : List ℕ) → word_of text ≡ None → is_reserved text ≡ false
unfolding word_of reserved_words among
none-reserved text none = none-among_words all_words text none

named : (text : List ℕ) → is_word text ≡ true → is_reserved text ≡ false → IsName text
unfolding is_name
named text word free = and_from (is_word text) (not (is_reserved text)) word (ap not free)

word_case : (reserved : Option Fixed) (text : List ℕ) → word_of text ≡ reserved → is_word text ≡ true → IsSoundToken (word_or_name reserved text)
word_case (Some fixed) text is word = tt
word_case None text is word = named text word (none-reserved text is)

word-sound : (text : List ℕ) → is_word text ≡ true → IsSoundToken (name_or_word text)
unfolding name_or_word
word-sound text word = word_case (word_of text) text refl word

hex-small : (byte : ℕ) → hex_value byte < 16
hex-small byte = grind (arith, nat_tests)

word_value-small : (bytes : List ℕ) → word_value bytes < 65536
word_value-small bytes =
    let a : hex_value (byte_at bytes 4) < 16 = hex-small (byte_at bytes 4) in
    let b : hex_value (byte_at bytes 5) < 16 = hex-small (byte_at bytes 5) in
    let c : hex_value (byte_at bytes 6) < 16 = hex-small (byte_at bytes 6) in
    let d : hex_value (byte_at bytes 7) < 16 = hex-small (byte_at bytes 7) in
    small (hex_value (byte_at bytes 4)) (hex_value (byte_at bytes 5)) (hex_value (byte_at bytes 6)) (hex_value (byte_at bytes 7)) a b c d
  where
    small : (a b c d : ℕ) → a < 16 → b < 16 → c < 16 → d < 16 → 256 * (16 * a + b) + (16 * c + d) < 65536
    small a b c d e f g h = omega arith

digits_case : (a b : Bool) (bit : Bool) (word number : ℕ) → word < 65536 → IsSoundToken (if a then token.bit bit else if b then token.word word else token.number number)
digits_case true b bit word number small = tt
digits_case false true bit word number small = small
digits_case false false bit word number small = tt

digits-sound : (bytes : List ℕ) → IsSoundToken (digits_token bytes)
unfolding digits_token
digits-sound bytes = digits_case (is_bit_text bytes) (is_word_text bytes) (byte_at bytes 3 == 49) (word_value bytes) (number_value bytes) (word_value-small bytes)

sign_case : (pair single : Option Fixed) → IsSoundToken (first_sign pair single)
sign_case (Some fixed) single = tt
sign_case None (Some fixed) = tt
sign_case None None = tt

sign-sound : (bytes : List ℕ) → IsSoundToken (sign_token bytes)
unfolding sign_token
sign-sound bytes = sign_case (pair_of (byte_at bytes 0) (byte_at bytes 1)) (sign_of (byte_at bytes 0))

front_case : (a b : Bool) (x y z : TokenValue) → (a ≡ true → IsSoundToken x) → IsSoundToken y → IsSoundToken z → IsSoundToken (if a then x else if b then y else z)
front_case true b x y z first second third = first refl
front_case false true x y z first second third = second
front_case false false x y z first second third = third

front-sound : (bytes : List ℕ) → IsSoundToken (front_token bytes)
unfolding front_token
front-sound bytes =
    front_case (is_letter (byte_at bytes 0)) (is_digit (byte_at bytes 0)) (name_or_word (take (name_length bytes) bytes)) (digits_token bytes) (sign_token bytes)
    (λ letter. word-sound (take (name_length bytes) bytes) (front-word bytes letter)) (digits-sound bytes) (sign-sound bytes)

spots_case : (b : Bool) (offset : ℕ) (one : TokenValue) (xs ys : List Spot) → AreSoundTokens (tokens_in xs) → IsSoundToken one → AreSoundTokens (tokens_in ys)
    → AreSoundTokens (tokens_in (if b then xs else spot offset one ∷ ys))
spots_case true offset one xs ys left here right = left
spots_case false offset one xs ys left here right = (here, right)

-- the tokens of any text
pub spots-sound : (offset covered : ℕ) (bytes : List ℕ) → AreSoundTokens (tokens_in (spots_from offset covered bytes))
unfolding spots_from
spots-sound offset covered [] = tt
spots-sound offset (suc covered) (byte ∷ bytes) = spots-sound (offset + 1) covered bytes
spots-sound offset zero (byte ∷ bytes) =
    spots_case (is_blank byte) offset (front_token (byte ∷ bytes)) (spots_from (offset + 1) zero bytes) (spots_from (offset + 1) (front_length (byte ∷ bytes) - 1) bytes)
    (spots-sound (offset + 1) zero bytes) (front-sound (byte ∷ bytes)) (spots-sound (offset + 1) (front_length (byte ∷ bytes) - 1) bytes)

pub spots_at-sound : (bytes : List ℕ) (from : ℕ) → AreSoundTokens (tokens_in (spots_at bytes from))
spots_at-sound bytes from = spots-sound from 0 (drop from bytes)

-- ---- values

abbrev pub IsSoundValue : Value → Type 0
IsSoundValue (Name role name) = IsName name
IsSoundValue (Word word) = word < 65536
IsSoundValue (AnAtom (atom.Whole name)) = IsName name
IsSoundValue (AnAtom (atom.Part name k)) = IsName name
IsSoundValue _ = Unit {0}

abbrev pub AreSoundValues : List Value → Type 0
AreSoundValues [] = Unit {0}
AreSoundValues (value ∷ values) = IsSoundValue value × AreSoundValues values

value-sound : (value : Value) → AreSoundTokens (value_tokens value) → IsSoundValue value
value-sound (Name role name) sound = sound.0
value-sound (Edge falling) sound = tt
value-sound (Bit bit) sound = tt
value-sound (Word word) sound = sound.0
value-sound (Index k) sound = tt
value-sound (AnAtom (atom.Bit bit)) sound = tt
value-sound (AnAtom (atom.Whole name)) sound = sound.0
value-sound (AnAtom (atom.Part name k)) sound = sound.0

pub sound-parts : (xs ys : List TokenValue) → AreSoundTokens (xs ++ ys) → AreSoundTokens xs × AreSoundTokens ys
sound-parts [] ys sound = (tt, sound)
sound-parts (one ∷ xs) ys sound = let more = sound-parts xs ys sound.1 in ((sound.0, more.0), more.1)

filled_case : (b : Bool) (wanted : Slot) (slots : List Slot) (before values : List Value) → takes_value wanted ≡ b → FitAll (wanted ∷ slots) values
    → AreSoundTokens (filled (wanted ∷ slots) before values) → ((front back : List Value) → FitAll slots back → AreSoundTokens (filled slots front back) → AreSoundValues back) → AreSoundValues values
unfolding FitAll
filled_case true wanted slots before [] takes fit sound more =
    let parts = subst (λ (b : Bool). FitsFirst b wanted [] × FitAll slots (if b then drop 1 [] else [])) takes fit in absurd parts.0
filled_case true wanted slots before (value ∷ values) takes fit sound more =
    let parts = subst (λ (b : Bool). FitsFirst b wanted (value ∷ values) × FitAll slots (if b then drop 1 (value ∷ values) else value ∷ values)) takes fit in
    let tokens = sound-parts (value_tokens value) (filled slots (before ++ value ∷ []) values) (subst AreSoundTokens (filled-took wanted slots before value values takes) sound) in
    (value-sound value tokens.0, more (before ++ value ∷ []) values parts.1 tokens.1)
filled_case false wanted slots before values takes fit sound more =
    let parts = subst (λ (b : Bool). FitsFirst b wanted values × FitAll slots (if b then drop 1 values else values)) takes fit in
    let tokens = sound-parts (exact_tokens before wanted) (filled slots before values) (subst AreSoundTokens (filled-passed wanted slots before values takes) sound) in
    more before values parts.1 tokens.1

filled-sound : (slots : List Slot) (before values : List Value) → FitAll slots values → AreSoundTokens (filled slots before values) → AreSoundValues values
unfolding FitAll
filled-sound [] before [] fit sound = tt
filled-sound [] before (value ∷ values) fit sound = absurd fit
filled-sound (wanted ∷ slots) before values fit sound =
    filled_case (takes_value wanted) wanted slots before values refl fit sound (λ front back. filled-sound slots front back)

-- what is read of sound tokens
pub record SoundRead (found after : List Found) (rest : List Spot) : Type 0 where
  pub given : List Found
  pub gained : after ≡ found ++ given
  pub values : AreSoundValues (values_of given)
  pub left : AreSoundTokens (tokens_in rest)

pub slots-sound : (end : ℕ) (slots : List Slot) (found : List Found) (spots : List Spot) (after : List Found) (rest : List Spot)
    → AreSoundTokens (tokens_in spots) → read_slots end slots found spots ≡ Ok (after, rest) → SoundRead found after rest
slots-sound end slots found spots after rest sound reads =
    let stands = slots-stand end slots found spots after rest reads in
    let parts = sound-parts (filled slots (values_of found) (values_of stands.given)) (tokens_in rest) (subst AreSoundTokens stands.tokens sound) in
    record { given = stands.given; gained = stands.gained; values = filled-sound slots (values_of found) (values_of stands.given) stands.fit parts.0; left = parts.1 }
