-- A `&` to the memory lends the bytes that are written. Assumes `Logic`.
use lib.ListN.{length}
use base.Fraction.{full_share}
use mir.Syntax.{w8}
use denote.Array.{Array, Array-row_laws}
use denote.Builtin.{u8}
use denote.Copied.{uint_Copied}
use denote.Plain.{uint_row_laws}
use denote.Shares.{Shares-Array}
use denote.Struct.Lending.{lent_at_shr_laws, Lends-lies, Lends-first, of_Lends}
use Rattle.name_arena.specs.Blocks.{written, left, memory_lent}
use Rattle.name_arena.specs.contracts.block.Memory as C
use Rattle.name_arena.proofs.block.Memory.TheLaw.Statement.{statement}

pub shares : statement
shares = of_Lends C.struct C.the_codes C.the_heap C.the_lent
    (λ d p. lent_at_shr_laws (Array u8 (length d.bytes)) (Array-row_laws u8 (uint_row_laws w8) (length d.bytes)) d.at d.bytes) tt
    (λ M 𝓤 𝓛 d p.
    let l = C.the_row.lives in
    let n = length d.bytes in
    Lends-first 𝓛 (written d.at d.bytes) (left d.at d.room d.bytes) (memory_lent d.at d.bytes) l
    (Lends-lies 𝓛 (Array u8 n) l d.at d.bytes (Shares-Array 𝓛 u8 tt n l ((uint_Copied 𝓛 w8).shares full_share l) d.bytes)))
