-- The definitions on small texts.
use Rattle.std.proofs.Common.{◌≡◌, refl}
use Rattle.std.specs.Prelude.{None, Some, codes}
use Rattle.vlog_tokens.specs.Fixed.{word_of, pair_of, sign_of}
use Rattle.vlog_tokens.specs.Tokens.{spots_from, front_token, front_length, digits_token, digits_length, sign_token, sign_length, name_or_word}
use Rattle.vlog_forms.specs.declared.fault.VlogCause.TheVariants.{Syntax, Undeclared}
use Rattle.vlog_forms.specs.Layout.{slots_of}
use Rattle.vlog_forms.specs.Items.{item_of, atoms_in, following}
use Rattle.vlog_forms.specs.Reading.{read_forms, read_slots}
use Rattle.vlog_forms.specs.Outcome.{vlog_fault_of, outcome_of, spots_outcome, items_outcome, ports_outcome, port_names, fault}

undeclared : vlog_fault_of (codes "module m (a); input a; wire w = v; endmodule") ≡ Some (fault 32 Undeclared)
unfolding vlog_fault_of outcome_of spots_outcome items_outcome ports_outcome port_names read_forms read_slots slots_of item_of atoms_in following spots_from front_token front_length digits_token digits_length sign_token sign_length name_or_word word_of pair_of sign_of
undeclared = refl

ends_early : vlog_fault_of (codes "module m (") ≡ Some (fault 10 Syntax)
unfolding vlog_fault_of outcome_of spots_outcome items_outcome ports_outcome port_names read_forms read_slots slots_of item_of atoms_in following spots_from front_token front_length digits_token digits_length sign_token sign_length name_or_word word_of pair_of sign_of
ends_early = refl

-- a flip-flop with asynchronous set or reset
set_at_once : vlog_fault_of (codes "module m (c); input c; reg r = 1'b0; wire s = c; wire w = s?1'b1:r; always @(posedge c or posedge s) if (s) r <= 1'b1; else if (1'b1) r <= 16'h5555 >> {1'b0, 1'b0, 1'b0, w}; endmodule") ≡ None
unfolding vlog_fault_of outcome_of spots_outcome items_outcome ports_outcome port_names read_forms read_slots slots_of item_of atoms_in following spots_from front_token front_length digits_token digits_length sign_token sign_length name_or_word word_of pair_of sign_of
set_at_once = refl

-- a wire reads the register of such a flip-flop as it is
read_plainly : vlog_fault_of (codes "module m (c); input c; reg r = 1'b0; wire s = c; wire w = r; always @(posedge c or posedge s) if (s) r <= 1'b1; else if (1'b1) r <= 16'h5555 >> {1'b0, 1'b0, 1'b0, w}; endmodule") ≡ Some (fault 101 Undeclared)
unfolding vlog_fault_of outcome_of spots_outcome items_outcome ports_outcome port_names read_forms read_slots slots_of item_of atoms_in following spots_from front_token front_length digits_token digits_length sign_token sign_length name_or_word word_of pair_of sign_of
read_plainly = refl

-- the wire that sets it is repeated otherwise
other_reset : vlog_fault_of (codes "module m (c); input c; reg r = 1'b0; wire s = c; always @(posedge c or posedge s) if (c) r <= 1'b1; else if (1'b1) r <= 16'h0000 >> {s, s, s, s}; endmodule") ≡ Some (fault 86 Syntax)
unfolding vlog_fault_of outcome_of spots_outcome items_outcome ports_outcome port_names read_forms read_slots slots_of item_of atoms_in following spots_from front_token front_length digits_token digits_length sign_token sign_length name_or_word word_of pair_of sign_of
other_reset = refl

-- an asynchronous set alone
set_at_the_other_edge : vlog_fault_of (codes "module m (c); input c; reg r = 1'b0; wire s = c; always @(negedge s) r <= 1'b1; endmodule") ≡ Some (fault 69 Syntax)
unfolding vlog_fault_of outcome_of spots_outcome items_outcome ports_outcome port_names read_forms read_slots slots_of item_of atoms_in following spots_from front_token front_length digits_token digits_length sign_token sign_length name_or_word word_of pair_of sign_of
set_at_the_other_edge = refl

-- `or` is no name
reserved : vlog_fault_of (codes "module or (); endmodule") ≡ Some (fault 7 Syntax)
unfolding vlog_fault_of outcome_of spots_outcome items_outcome ports_outcome port_names read_forms read_slots slots_of item_of atoms_in following spots_from front_token front_length digits_token digits_length sign_token sign_length name_or_word word_of pair_of sign_of
reserved = refl

-- a flip-flop without a clock
set_without_a_clock : vlog_fault_of (codes "module m (c); input c; reg r = 1'b0; wire s = c; always @(posedge s) r <= 1'b1; endmodule") ≡ None
unfolding vlog_fault_of outcome_of spots_outcome items_outcome ports_outcome port_names read_forms read_slots slots_of item_of atoms_in following spots_from front_token front_length digits_token digits_length sign_token sign_length name_or_word word_of pair_of sign_of
set_without_a_clock = refl

-- a narrow read and a narrow write
narrow : vlog_fault_of (codes "module m (c); input c; reg [15:0] r = 16'h0000; reg [15:0] q [0:255]; always @(posedge c) if (1'b1 & 1'b1) r <= (q[{1'b0, 1'b0, 1'b0, 1'b0, 1'b0, 1'b0, 1'b0, 1'b0}] >> {1'b0, 1'b0, c}) & 16'h5555; always @(negedge c) if (1'b1 & 1'b1) q[{1'b0, 1'b0, 1'b0, 1'b0, 1'b0, 1'b0, 1'b0, 1'b0}] <= (q[{1'b0, 1'b0, 1'b0, 1'b0, 1'b0, 1'b0, 1'b0, 1'b0}] & ~(16'h5555 << {1'b0, 1'b0, c})) | ({1'b0, 1'b0, 1'b0, 1'b0, 1'b0, 1'b0, 1'b0, 1'b0, 1'b0, 1'b0, 1'b0, 1'b0, 1'b0, 1'b0, 1'b0, 1'b0} & (16'h5555 << {1'b0, 1'b0, c})); endmodule") ≡ None
unfolding vlog_fault_of outcome_of spots_outcome items_outcome ports_outcome port_names read_forms read_slots slots_of item_of atoms_in following spots_from front_token front_length digits_token digits_length sign_token sign_length name_or_word word_of pair_of sign_of
narrow = refl

-- a pattern that is repeated otherwise
other_pattern : vlog_fault_of (codes "module m (c); input c; reg [15:0] r = 16'h0000; reg [15:0] q [0:255]; always @(negedge c) if (1'b1 & 1'b1) q[{1'b0, 1'b0, 1'b0, 1'b0, 1'b0, 1'b0, 1'b0, 1'b0}] <= (q[{1'b0, 1'b0, 1'b0, 1'b0, 1'b0, 1'b0, 1'b0, 1'b0}] & ~(16'h5555 << {1'b0, 1'b0, c})) | ({1'b0, 1'b0, 1'b0, 1'b0, 1'b0, 1'b0, 1'b0, 1'b0, 1'b0, 1'b0, 1'b0, 1'b0, 1'b0, 1'b0, 1'b0, 1'b0} & (16'h1111 << {1'b0, 1'b0, c})); endmodule") ≡ Some (fault 352 Syntax)
unfolding vlog_fault_of outcome_of spots_outcome items_outcome ports_outcome port_names read_forms read_slots slots_of item_of atoms_in following spots_from front_token front_length digits_token digits_length sign_token sign_length name_or_word word_of pair_of sign_of
other_pattern = refl

-- a register as a clock, which is read and assigned too
register_clock : vlog_fault_of (codes "module m (c); input c; reg r = 1'b0; reg q = 1'b0; always @(posedge c) if (1'b1) begin if (1'b0) r <= 1'b0; else r <= 16'h5555 >> {1'b0, 1'b0, 1'b0, r}; end always @(negedge r) if (1'b1) begin if (1'b0) q <= 1'b0; else q <= 16'h5555 >> {1'b0, 1'b0, 1'b0, q}; end endmodule") ≡ None
unfolding vlog_fault_of outcome_of spots_outcome items_outcome ports_outcome port_names read_forms read_slots slots_of item_of atoms_in following spots_from front_token front_length digits_token digits_length sign_token sign_length name_or_word word_of pair_of sign_of
register_clock = refl

-- a wire as a clock
wire_clock : vlog_fault_of (codes "module m (c); input c; reg r = 1'b0; reg q = 1'b0; wire w = r; always @(posedge c) if (1'b1) begin if (1'b0) r <= 1'b0; else r <= 16'h5555 >> {1'b0, 1'b0, 1'b0, r}; end always @(negedge w) if (1'b1) begin if (1'b0) q <= 1'b0; else q <= 16'h5555 >> {1'b0, 1'b0, 1'b0, q}; end endmodule") ≡ Some (fault 186 Undeclared)
unfolding vlog_fault_of outcome_of spots_outcome items_outcome ports_outcome port_names read_forms read_slots slots_of item_of atoms_in following spots_from front_token front_length digits_token digits_length sign_token sign_length name_or_word word_of pair_of sign_of
wire_clock = refl

-- a register of 16 bits as a clock
word_clock : vlog_fault_of (codes "module m (c); input c; reg r = 1'b0; reg q = 1'b0; reg [15:0] w = 16'h0000; always @(posedge c) if (1'b1) begin if (1'b0) r <= 1'b0; else r <= 16'h5555 >> {1'b0, 1'b0, 1'b0, r}; end always @(negedge w) if (1'b1) begin if (1'b0) q <= 1'b0; else q <= 16'h5555 >> {1'b0, 1'b0, 1'b0, q}; end endmodule") ≡ Some (fault 199 Undeclared)
unfolding vlog_fault_of outcome_of spots_outcome items_outcome ports_outcome port_names read_forms read_slots slots_of item_of atoms_in following spots_from front_token front_length digits_token digits_length sign_token sign_length name_or_word word_of pair_of sign_of
word_clock = refl

-- a register as its own clock
own_clock : vlog_fault_of (codes "module m (); reg r = 1'b0; wire s = 1'b0; always @(posedge r or posedge s) if (s) r <= 1'b1; else if (1'b1) r <= 16'h5555 >> {1'b0, 1'b0, 1'b0, r}; endmodule") ≡ None
unfolding vlog_fault_of outcome_of spots_outcome items_outcome ports_outcome port_names read_forms read_slots slots_of item_of atoms_in following spots_from front_token front_length digits_token digits_length sign_token sign_length name_or_word word_of pair_of sign_of
own_clock = refl
