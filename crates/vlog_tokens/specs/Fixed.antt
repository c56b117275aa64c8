-- Signs and reserved words: the tokens that have only one spelling (IEEE Std 1364-2005, clause 3, as far as the subset has them).
use Rattle.std.specs.Prelude.{ℕ, ◌&&◌, List, ◌==◌, if◌then◌else◌, Option, Some, None, codes}
use Rattle.std.specs.Str.{bytes_eq}
use Rattle.vlog_tokens.specs.declared.fixed.Fixed.{Fixed}
use Rattle.vlog_tokens.specs.declared.fixed.Fixed.TheVariants.{OpenParen, CloseParen, OpenBracket, CloseBracket, OpenBrace, CloseBrace, Comma, Semicolon, Colon, Equals, LessEquals, And, Or, Not, ShiftLeft, ShiftRight, At, Question, Module, Endmodule, Input, Output, Reg, Wire, Assign, Always, Posedge, Negedge, If, Begin, End, Else, Initial, OrEdge}

-- how each of them is spelled
abbrev pub fixed_text : Fixed → List ℕ
fixed_text OpenParen = codes "("
fixed_text CloseParen = codes ")"
fixed_text OpenBracket = codes "["
fixed_text CloseBracket = codes "]"
fixed_text OpenBrace = codes "{"
fixed_text CloseBrace = codes "}"
fixed_text Comma = codes ","
fixed_text Semicolon = codes ";"
fixed_text Colon = codes ":"
fixed_text Equals = codes "="
fixed_text LessEquals = codes "<="
fixed_text And = codes "&"
fixed_text Or = codes "|"
fixed_text Not = codes "~"
fixed_text ShiftLeft = codes "<<"
fixed_text ShiftRight = codes ">>"
fixed_text At = codes "@"
fixed_text Question = codes "?"
fixed_text Module = codes "module"
fixed_text Endmodule = codes "endmodule"
fixed_text Input = codes "input"
fixed_text Output = codes "output"
fixed_text Reg = codes "reg"
fixed_text Wire = codes "wire"
fixed_text Assign = codes "assign"
fixed_text Always = codes "always"
fixed_text Posedge = codes "posedge"
fixed_text Negedge = codes "negedge"
fixed_text If = codes "if"
fixed_text Begin = codes "begin"
fixed_text End = codes "end"
fixed_text Else = codes "else"
fixed_text Initial = codes "initial"
fixed_text OrEdge = codes "or"

-- the reserved word with this spelling, if there is one
unfoldable pub word_of : List ℕ → Option Fixed
word_of text =
    if bytes_eq text (codes "module") then Some Module else
    if bytes_eq text (codes "endmodule") then Some Endmodule else
    if bytes_eq text (codes "input") then Some Input else
    if bytes_eq text (codes "output") then Some Output else
    if bytes_eq text (codes "reg") then Some Reg else
    if bytes_eq text (codes "wire") then Some Wire else
    if bytes_eq text (codes "assign") then Some Assign else
    if bytes_eq text (codes "always") then Some Always else
    if bytes_eq text (codes "posedge") then Some Posedge else
    if bytes_eq text (codes "negedge") then Some Negedge else
    if bytes_eq text (codes "if") then Some If else
    if bytes_eq text (codes "begin") then Some Begin else
    if bytes_eq text (codes "end") then Some End else
    if bytes_eq text (codes "else") then Some Else else
    if bytes_eq text (codes "initial") then Some Initial else
    if bytes_eq text (codes "or") then Some OrEdge else
    None

-- the sign of two bytes that these two bytes are, if any
unfoldable pub pair_of : ℕ → ℕ → Option Fixed
pair_of first second =
    if (first == 60) && (second == 61) then Some LessEquals else
    if (first == 60) && (second == 60) then Some ShiftLeft else
    if (first == 62) && (second == 62) then Some ShiftRight else
    None

-- the sign of one byte that this byte is, if any
unfoldable pub sign_of : ℕ → Option Fixed
sign_of byte =
    if byte == 40 then Some OpenParen else
    if byte == 41 then Some CloseParen else
    if byte == 91 then Some OpenBracket else
    if byte == 93 then Some CloseBracket else
    if byte == 123 then Some OpenBrace else
    if byte == 125 then Some CloseBrace else
    if byte == 44 then Some Comma else
    if byte == 59 then Some Semicolon else
    if byte == 58 then Some Colon else
    if byte == 61 then Some Equals else
    if byte == 38 then Some And else
    if byte == 124 then Some Or else
    if byte == 126 then Some Not else
    if byte == 64 then Some At else
    if byte == 63 then Some Question else
    None
