-- The table of forms: the slots of each form from left to right.
use Rattle.std.specs.Prelude.{List, [], ◌∷◌}
use Rattle.vlog_tokens.specs.declared.fixed.Fixed.TheVariants as sign
use Rattle.vlog_module.specs.declared.sort.Sort.TheVariants as sort
use Rattle.vlog_forms.specs.declared.form.Form.{Form}
use Rattle.vlog_forms.specs.declared.form.Form.TheVariants as form
use Rattle.vlog_forms.specs.declared.slot.Role.TheVariants.{Declares, Reads, ReadsBit, Clocks, Takes, Assigns, Chooses, AssignsAsync, Starts}
use Rattle.vlog_forms.specs.declared.slot.Slot.{Slot}
use Rattle.vlog_forms.specs.declared.slot.Slot.TheVariants.{Space, Fixed, Literal, Again, AtomsAgain, Name, Edge, Bit, Word, Index, Atom, Atoms}

abbrev pub table : Form → List Slot
table form.Input =
    Fixed sign.Input ∷ Space ∷ Again 0 ∷ Fixed sign.Semicolon ∷ []
table form.Output =
    Fixed sign.Output ∷ Space ∷ Again 0 ∷ Fixed sign.Semicolon ∷ []
table form.Register =
    Fixed sign.Reg ∷ Space ∷ Name (Declares sort.Register) ∷ Space ∷ Fixed sign.Equals ∷ Space ∷ Bit ∷
    Fixed sign.Semicolon ∷ []
table form.Word =
    Fixed sign.Reg ∷ Space ∷ Fixed sign.OpenBracket ∷ Literal 15 ∷ Fixed sign.Colon ∷ Literal 0 ∷
    Fixed sign.CloseBracket ∷ Space ∷ Name (Declares sort.Word) ∷ Space ∷ Fixed sign.Equals ∷ Space ∷ Word ∷
    Fixed sign.Semicolon ∷ []
table form.Memory =
    Fixed sign.Reg ∷ Space ∷ Fixed sign.OpenBracket ∷ Literal 15 ∷ Fixed sign.Colon ∷ Literal 0 ∷
    Fixed sign.CloseBracket ∷ Space ∷ Name (Declares sort.Memory) ∷ Space ∷ Fixed sign.OpenBracket ∷
    Literal 0 ∷ Fixed sign.Colon ∷ Literal 255 ∷ Fixed sign.CloseBracket ∷ Fixed sign.Semicolon ∷ []
table form.WireBit =
    Fixed sign.Wire ∷ Space ∷ Name (Declares sort.Wire) ∷ Space ∷ Fixed sign.Equals ∷ Space ∷ Bit ∷
    Fixed sign.Semicolon ∷ []
table form.WireWhole =
    Fixed sign.Wire ∷ Space ∷ Name (Declares sort.Wire) ∷ Space ∷ Fixed sign.Equals ∷ Space ∷ Name Reads ∷
    Fixed sign.Semicolon ∷ []
table form.WirePart =
    Fixed sign.Wire ∷ Space ∷ Name (Declares sort.Wire) ∷ Space ∷ Fixed sign.Equals ∷ Space ∷ Name ReadsBit ∷
    Fixed sign.OpenBracket ∷ Index 15 ∷ Fixed sign.CloseBracket ∷ Fixed sign.Semicolon ∷ []
table form.WireLut =
    Fixed sign.Wire ∷ Space ∷ Name (Declares sort.Wire) ∷ Space ∷ Fixed sign.Equals ∷ Space ∷ Word ∷ Space ∷
    Fixed sign.ShiftRight ∷ Space ∷ Atoms 4 ∷ Fixed sign.Semicolon ∷ []
table form.WireMajority =
    Fixed sign.Wire ∷ Space ∷ Name (Declares sort.Wire) ∷ Space ∷ Fixed sign.Equals ∷ Space ∷
    Fixed sign.OpenParen ∷ Atom ∷ Space ∷ Fixed sign.And ∷ Space ∷ Atom ∷ Fixed sign.CloseParen ∷ Space ∷
    Fixed sign.Or ∷ Space ∷ Fixed sign.OpenParen ∷ Again 1 ∷ Space ∷ Fixed sign.And ∷ Space ∷ Atom ∷
    Fixed sign.CloseParen ∷ Space ∷ Fixed sign.Or ∷ Space ∷ Fixed sign.OpenParen ∷ Again 2 ∷ Space ∷
    Fixed sign.And ∷ Space ∷ Again 3 ∷ Fixed sign.CloseParen ∷ Fixed sign.Semicolon ∷ []
table form.WireChoose =
    Fixed sign.Wire ∷ Space ∷ Name (Declares sort.Wire) ∷ Space ∷ Fixed sign.Equals ∷ Space ∷
    Name (Takes sort.Wire) ∷ Space ∷ Fixed sign.Question ∷ Space ∷ Bit ∷ Space ∷ Fixed sign.Colon ∷ Space ∷
    Name Chooses ∷ Fixed sign.Semicolon ∷ []
table form.Assign =
    Fixed sign.Assign ∷ Space ∷ Name (Assigns sort.Output) ∷ Space ∷ Fixed sign.Equals ∷ Space ∷ Atom ∷
    Fixed sign.Semicolon ∷ []
table form.FlipFlop =
    Fixed sign.Always ∷ Space ∷ Fixed sign.At ∷ Fixed sign.OpenParen ∷ Edge ∷ Space ∷
    Name Clocks ∷ Fixed sign.CloseParen ∷ Space ∷ Fixed sign.If ∷ Space ∷ Fixed sign.OpenParen ∷
    Atom ∷ Fixed sign.CloseParen ∷ Space ∷ Fixed sign.Begin ∷ Space ∷ Fixed sign.If ∷ Space ∷
    Fixed sign.OpenParen ∷ Atom ∷ Fixed sign.CloseParen ∷ Space ∷ Name (Assigns sort.Register) ∷ Space ∷
    Fixed sign.LessEquals ∷ Space ∷ Bit ∷ Fixed sign.Semicolon ∷ Space ∷ Fixed sign.Else ∷ Space ∷ Again 4 ∷
    Space ∷ Fixed sign.LessEquals ∷ Space ∷ Word ∷ Space ∷ Fixed sign.ShiftRight ∷ Space ∷ Atoms 4 ∷
    Fixed sign.Semicolon ∷ Space ∷ Fixed sign.End ∷ []
table form.AsyncFlipFlop =
    Fixed sign.Always ∷ Space ∷ Fixed sign.At ∷ Fixed sign.OpenParen ∷ Edge ∷ Space ∷
    Name Clocks ∷ Space ∷ Fixed sign.OrEdge ∷ Space ∷ Fixed sign.Posedge ∷ Space ∷
    Name (Takes sort.Wire) ∷ Fixed sign.CloseParen ∷ Space ∷ Fixed sign.If ∷ Space ∷ Fixed sign.OpenParen ∷
    Again 2 ∷ Fixed sign.CloseParen ∷ Space ∷ Name AssignsAsync ∷ Space ∷ Fixed sign.LessEquals ∷ Space ∷ Bit ∷
    Fixed sign.Semicolon ∷ Space ∷ Fixed sign.Else ∷ Space ∷ Fixed sign.If ∷ Space ∷ Fixed sign.OpenParen ∷ Atom ∷
    Fixed sign.CloseParen ∷ Space ∷ Again 3 ∷ Space ∷ Fixed sign.LessEquals ∷ Space ∷ Word ∷ Space ∷
    Fixed sign.ShiftRight ∷ Space ∷ Atoms 4 ∷ Fixed sign.Semicolon ∷ []
table form.AsyncReset =
    Fixed sign.Always ∷ Space ∷ Fixed sign.At ∷ Fixed sign.OpenParen ∷ Fixed sign.Posedge ∷ Space ∷
    Name (Takes sort.Wire) ∷ Fixed sign.CloseParen ∷ Space ∷ Name AssignsAsync ∷ Space ∷ Fixed sign.LessEquals ∷
    Space ∷ Bit ∷ Fixed sign.Semicolon ∷ []
table form.Read =
    Fixed sign.Always ∷ Space ∷ Fixed sign.At ∷ Fixed sign.OpenParen ∷ Edge ∷ Space ∷
    Name Clocks ∷ Fixed sign.CloseParen ∷ Space ∷ Fixed sign.If ∷ Space ∷ Fixed sign.OpenParen ∷
    Atom ∷ Space ∷ Fixed sign.And ∷ Space ∷ Atom ∷ Fixed sign.CloseParen ∷ Space ∷ Name (Assigns sort.Word) ∷
    Space ∷ Fixed sign.LessEquals ∷ Space ∷ Name (Takes sort.Memory) ∷ Fixed sign.OpenBracket ∷ Atoms 8 ∷
    Fixed sign.CloseBracket ∷ Fixed sign.Semicolon ∷ []
table form.ReadNarrow =
    Fixed sign.Always ∷ Space ∷ Fixed sign.At ∷ Fixed sign.OpenParen ∷ Edge ∷ Space ∷
    Name Clocks ∷ Fixed sign.CloseParen ∷ Space ∷ Fixed sign.If ∷ Space ∷ Fixed sign.OpenParen ∷
    Atom ∷ Space ∷ Fixed sign.And ∷ Space ∷ Atom ∷ Fixed sign.CloseParen ∷ Space ∷ Name (Assigns sort.Word) ∷
    Space ∷ Fixed sign.LessEquals ∷ Space ∷ Fixed sign.OpenParen ∷ Name (Takes sort.Memory) ∷
    Fixed sign.OpenBracket ∷ Atoms 8 ∷ Fixed sign.CloseBracket ∷ Space ∷ Fixed sign.ShiftRight ∷ Space ∷ Atoms 3 ∷
    Fixed sign.CloseParen ∷ Space ∷ Fixed sign.And ∷ Space ∷ Word ∷ Fixed sign.Semicolon ∷ []
table form.Write =
    Fixed sign.Always ∷ Space ∷ Fixed sign.At ∷ Fixed sign.OpenParen ∷ Edge ∷ Space ∷
    Name Clocks ∷ Fixed sign.CloseParen ∷ Space ∷ Fixed sign.If ∷ Space ∷ Fixed sign.OpenParen ∷
    Atom ∷ Space ∷ Fixed sign.And ∷ Space ∷ Atom ∷ Fixed sign.CloseParen ∷ Space ∷
    Name (Assigns sort.Memory) ∷ Fixed sign.OpenBracket ∷ Atoms 8 ∷ Fixed sign.CloseBracket ∷ Space ∷
    Fixed sign.LessEquals ∷ Space ∷ Fixed sign.OpenParen ∷ Again 4 ∷ Fixed sign.OpenBracket ∷
    AtomsAgain 5 8 ∷ Fixed sign.CloseBracket ∷ Space ∷ Fixed sign.And ∷ Space ∷ Atoms 16 ∷
    Fixed sign.CloseParen ∷ Space ∷ Fixed sign.Or ∷ Space ∷ Fixed sign.OpenParen ∷ Atoms 16 ∷ Space ∷
    Fixed sign.And ∷ Space ∷ Fixed sign.Not ∷ AtomsAgain 13 16 ∷ Fixed sign.CloseParen ∷
    Fixed sign.Semicolon ∷ []
table form.WriteNarrow =
    Fixed sign.Always ∷ Space ∷ Fixed sign.At ∷ Fixed sign.OpenParen ∷ Edge ∷ Space ∷
    Name Clocks ∷ Fixed sign.CloseParen ∷ Space ∷ Fixed sign.If ∷ Space ∷ Fixed sign.OpenParen ∷
    Atom ∷ Space ∷ Fixed sign.And ∷ Space ∷ Atom ∷ Fixed sign.CloseParen ∷ Space ∷
    Name (Assigns sort.Memory) ∷ Fixed sign.OpenBracket ∷ Atoms 8 ∷ Fixed sign.CloseBracket ∷ Space ∷
    Fixed sign.LessEquals ∷ Space ∷ Fixed sign.OpenParen ∷ Again 4 ∷ Fixed sign.OpenBracket ∷
    AtomsAgain 5 8 ∷ Fixed sign.CloseBracket ∷ Space ∷ Fixed sign.And ∷ Space ∷ Fixed sign.Not ∷
    Fixed sign.OpenParen ∷ Word ∷ Space ∷ Fixed sign.ShiftLeft ∷ Space ∷ Atoms 3 ∷ Fixed sign.CloseParen ∷
    Fixed sign.CloseParen ∷ Space ∷ Fixed sign.Or ∷ Space ∷ Fixed sign.OpenParen ∷ Atoms 16 ∷ Space ∷
    Fixed sign.And ∷ Space ∷ Fixed sign.OpenParen ∷ Again 13 ∷ Space ∷ Fixed sign.ShiftLeft ∷ Space ∷
    AtomsAgain 14 3 ∷ Fixed sign.CloseParen ∷ Fixed sign.CloseParen ∷ Fixed sign.Semicolon ∷ []
table form.Start =
    Fixed sign.Initial ∷ Space ∷ Name Starts ∷ Fixed sign.OpenBracket ∷ Index 255 ∷ Fixed sign.CloseBracket ∷
    Space ∷ Fixed sign.Equals ∷ Space ∷ Word ∷ Fixed sign.Semicolon ∷ []
table form.End =
    Fixed sign.Endmodule ∷ []
