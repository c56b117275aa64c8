-- A reader of documents of the Extensible Markup Language 1.0, as far as pictures need it. A document is an XML declaration, one element, and line
-- feeds. Elements are nested. Their attributes have different names, and values in double quotes. Texts have line feeds, printable characters of
-- ASCII apart from `&`, `<` and `>`, and the five predefined entities; values have no entities and no line feeds. The reader takes no comments,
-- processing instructions, document types and CDATA sections, so what it reads is well-formed. It answers the values of the attributes `class`.
use Rattle.std.specs.Prelude.{ℕ, Bool, not, ◌&&◌, ◌||◌, List, [], ◌∷◌, length, take, drop, bytes_eq, codes, nat_le, ◌==◌, if◌then◌else◌, Option, Some, None}
use Rattle.std.specs.List.{list_any}
use Rattle.plan_svg.specs.Names.{is_printable}

-- ---- what the reader keeps

-- Where the reader is. Words have their last letter first: the name of the element, the name of the attribute, and the value.
pub data Mode : Type 0 where
  -- before the element, in a text, and after the element
  before : Mode
  content : Mode
  after : Mode
  -- after `<`, in the name of a start tag, and in that of an end tag
  tag : Mode
  opening : List ℕ → Mode
  closing : List ℕ → Mode
  -- in a start tag, with its name and the names of the attributes before: after a space, in the name of an attribute, after `=`, in a value, and after
  -- a value
  space : List ℕ → List (List ℕ) → Mode
  key : List ℕ → List (List ℕ) → List ℕ → Mode
  equals : List ℕ → List (List ℕ) → List ℕ → Mode
  value : List ℕ → List (List ℕ) → List ℕ → List ℕ → Mode
  quoted : List ℕ → List (List ℕ) → Mode
  -- after `/` of an element without content
  empty : Mode
  -- in an entity
  entity : List ℕ → Mode
  -- no document
  fault : Mode

-- where the reader is, the elements that it is in, the innermost one first, and the classes that it has found, the last one first
pub record Reading : Type 0 where
  pub mode : Mode
  pub elements : List (List ℕ)
  pub classes : List (List ℕ)

abbrev pub reading : Mode → List (List ℕ) → List (List ℕ) → Reading
reading mode elements classes = record { mode = mode; elements = elements; classes = classes }

abbrev pub refused : Reading
refused = reading fault [] []

-- ---- a byte

abbrev pub is_letter : ℕ → Bool
is_letter byte = (nat_le 97 byte && nat_le byte 122) || (nat_le 65 byte && nat_le byte 90)

-- a byte of a name after its first one
abbrev pub is_name_byte : ℕ → Bool
is_name_byte byte = is_letter byte || ((nat_le 48 byte && nat_le byte 57) || ((byte == 58) || (byte == 45)))

-- a byte of a text or a value that means itself
abbrev pub is_text : ℕ → Bool
is_text byte = is_printable byte && not ((byte == 38) || ((byte == 60) || (byte == 62)))

abbrev pub is_entity : List ℕ → Bool
is_entity word = list_any (bytes_eq word) (codes "pma" ∷ codes "tl" ∷ codes "tg" ∷ codes "touq" ∷ codes "sopa" ∷ [])

-- an element has ended: the reader is in the one around it
abbrev pub shut : List (List ℕ) → List (List ℕ) → Reading
shut [] classes = reading after [] classes
shut (name ∷ elements) classes = reading content (name ∷ elements) classes

-- the end tag of the innermost element
abbrev pub shut_named : List ℕ → List (List ℕ) → List (List ℕ) → Reading
shut_named name [] classes = refused
shut_named name (innermost ∷ elements) classes = if bytes_eq name innermost then shut elements classes else refused

-- what comes after the name of a start tag or after a value
abbrev pub in_tag : List ℕ → List (List ℕ) → List (List ℕ) → List (List ℕ) → ℕ → Reading
in_tag name keys elements classes byte =
    if byte == 32 then reading (space name keys) elements classes
    else if byte == 62 then reading content (name ∷ elements) classes
    else if byte == 47 then reading empty elements classes
    else refused

abbrev pub with_class : List ℕ → List ℕ → List (List ℕ) → List (List ℕ)
with_class word text classes = if bytes_eq word (codes "ssalc") then text ∷ classes else classes

-- the next byte
abbrev pub read_byte : Mode → List (List ℕ) → List (List ℕ) → ℕ → Reading
read_byte before elements classes byte = if byte == 60 then reading tag elements classes else refused
read_byte content elements classes byte =
    if byte == 60 then reading tag elements classes
    else if byte == 38 then reading (entity []) elements classes
    else if (byte == 10) || is_text byte then reading content elements classes
    else refused
read_byte after elements classes byte = if byte == 10 then reading after elements classes else refused
read_byte tag elements classes byte =
    if byte == 47 then reading (closing []) elements classes
    else if is_letter byte then reading (opening (byte ∷ [])) elements classes
    else refused
read_byte (opening name) elements classes byte =
    if is_name_byte byte then reading (opening (byte ∷ name)) elements classes else in_tag name [] elements classes byte
read_byte (closing name) elements classes byte =
    if is_name_byte byte then reading (closing (byte ∷ name)) elements classes
    else if byte == 62 then shut_named name elements classes
    else refused
read_byte (space name keys) elements classes byte = if is_letter byte then reading (key name keys (byte ∷ [])) elements classes else refused
read_byte (key name keys word) elements classes byte =
    if is_name_byte byte then reading (key name keys (byte ∷ word)) elements classes
    else if (byte == 61) && not (list_any (bytes_eq word) keys) then reading (equals name keys word) elements classes
    else refused
read_byte (equals name keys word) elements classes byte = if byte == 34 then reading (value name keys word []) elements classes else refused
read_byte (value name keys word text) elements classes byte =
    if byte == 34 then reading (quoted name (word ∷ keys)) elements (with_class word text classes)
    else if is_text byte then reading (value name keys word (byte ∷ text)) elements classes
    else refused
read_byte (quoted name keys) elements classes byte = in_tag name keys elements classes byte
read_byte empty elements classes byte = if byte == 62 then shut elements classes else refused
read_byte (entity word) elements classes byte =
    if byte == 59 then (if is_entity word then reading content elements classes else refused)
    else if is_letter byte then reading (entity (byte ∷ word)) elements classes
    else refused
read_byte fault elements classes byte = refused

-- ---- a document

-- some bytes, one after the other
unfoldable pub read : Reading → List ℕ → Reading
read now [] = now
read now (byte ∷ bytes) = read (read_byte now.mode now.elements now.classes byte) bytes

abbrev pub declaration : List ℕ
declaration = codes "<?xml version=\"1.0\" encoding=\"UTF-8\"?>\n"

abbrev pub answered : Mode → List (List ℕ) → Option (List (List ℕ))
answered after classes = Some classes
answered before classes = None
answered content classes = None
answered tag classes = None
answered (opening name) classes = None
answered (closing name) classes = None
answered (space name keys) classes = None
answered (key name keys word) classes = None
answered (equals name keys word) classes = None
answered (value name keys word text) classes = None
answered (quoted name keys) classes = None
answered empty classes = None
answered (entity word) classes = None
answered fault classes = None

-- the classes of a document, the last one first, each with its last letter first; nothing if the bytes are no document
unfoldable pub classes_read : List ℕ → Option (List (List ℕ))
classes_read bytes =
    if bytes_eq (take (length declaration) bytes) declaration
    then (let last = read (reading before [] []) (drop (length declaration) bytes) in answered last.mode last.classes)
    else None
