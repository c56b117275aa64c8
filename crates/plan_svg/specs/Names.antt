-- The names of pins in a plan: as text of XML, and shortened.
use Rattle.std.specs.Prelude.{ℕ, ◌+◌, ◌-◌, Bool, not, ◌&&◌, ◌||◌, List, [], ◌∷◌, ◌++◌, length, take, drop, map, flat_map, codes, nat_le, ◌==◌, if◌then◌else◌, Option, Some, None, IsTrue}
use denote.Ref.{Bor}
use Rattle.pin_file.specs.declared.given.GivenNames.{GivenNames}
use Rattle.pin_file.specs.declared.place.PinPlace.{PinPlace}
use Rattle.pin_file.specs.GivenNames.{name_kept}

-- the names that a pin file gives to pins by their places, if there is a pin file
abbrev pub Names : Type 0
Names = Option (PinPlace → Option (List ℕ))

-- the name of pin n of the tile at (x, y)
abbrev pub name_of : Names → ℕ → ℕ → ℕ → Option (List ℕ)
name_of None x y n = None
name_of (Some given) x y n = given (record { x = x; y = y; pio = n })

-- those that are kept
abbrev pub names_in : Option (Bor GivenNames) → Names
names_in None = None
names_in (Some names) = Some (name_kept names.now)

-- ---- as text of XML (Extensible Markup Language 1.0: characters, character data and predefined entities)

-- space to `~`
abbrev pub is_printable : ℕ → Bool
is_printable byte = nat_le 32 byte && nat_le byte 126

-- an entity for a byte that means something in XML, and `?` for a byte that isn't a printable character of ASCII
abbrev pub escaped_byte : ℕ → List ℕ
escaped_byte byte =
    if byte == 38 then codes "&amp;"
    else if byte == 60 then codes "&lt;"
    else if byte == 62 then codes "&gt;"
    else if byte == 34 then codes "&quot;"
    else if byte == 39 then codes "&apos;"
    else if is_printable byte then byte ∷ []
    else codes "?"

unfoldable pub escaped : List ℕ → List ℕ
escaped name = flat_map escaped_byte name

-- a name of at most `first + last + 2` bytes; of a longer one the first and the last bytes, and two dots between them
abbrev pub cut : ℕ → ℕ → List ℕ → List ℕ
cut first last name =
    if nat_le (length name) (first + last + 2) then name else take first name ++ codes ".." ++ drop (length name - last) name

-- a name as it stands in the picture
unfoldable pub label : ℕ → ℕ → List ℕ → List ℕ
label first last name = escaped (cut first last name)

-- ---- what an XML reader makes of it

-- printable characters of ASCII apart from `&`, `<`, `>` and quotes
abbrev pub is_plain : ℕ → Bool
is_plain byte = is_printable byte && not ((byte == 38) || ((byte == 60) || ((byte == 62) || ((byte == 34) || (byte == 39)))))

-- The bytes are a text of XML that says the other bytes: plain characters and entities. So there is no `<` or quote among them, no `&` that
-- doesn't begin an entity, and no byte that XML doesn't take.
pub data Says : List ℕ → List ℕ → Type 0 where
  nothing : Says [] []
  plain : (byte : ℕ) (bytes text : List ℕ) → IsTrue (is_plain byte) → Says bytes text → Says (byte ∷ bytes) (byte ∷ text)
  ampersand : (bytes text : List ℕ) → Says bytes text → Says (codes "&amp;" ++ bytes) (38 ∷ text)
  less : (bytes text : List ℕ) → Says bytes text → Says (codes "&lt;" ++ bytes) (60 ∷ text)
  greater : (bytes text : List ℕ) → Says bytes text → Says (codes "&gt;" ++ bytes) (62 ∷ text)
  quote : (bytes text : List ℕ) → Says bytes text → Says (codes "&quot;" ++ bytes) (34 ∷ text)
  apostrophe : (bytes text : List ℕ) → Says bytes text → Says (codes "&apos;" ++ bytes) (39 ∷ text)

-- a name with `?` for each byte that isn't a printable character of ASCII
abbrev pub shown : List ℕ → List ℕ
shown name = map (λ byte. if is_printable byte then byte else 63) name
