-- The headers of a boot file: five of 32 bytes, counted from 0. Each of the last four is an entry, entry 0 being header 1. They consist of
-- commands of Project IceStorm, 'Bitstream File Format Documentation'.
use Rattle.std.specs.Prelude.{ℕ, ◌+◌, ◌*◌, ◌%◌, Bool, false, ◌&&◌, ◌||◌, List, length, get_or, nat_lt, nat_le, ◌==◌}
use Rattle.boot_file.specs.BootFile.{header}

abbrev pub byte_at : List ℕ → ℕ → ℕ
byte_at bytes offset = get_or bytes offset 0

-- the three bytes of a header that are its address
abbrev pub is_address_place : ℕ → Bool
is_address_place place = nat_le 9 place && nat_lt place 12

-- the mode of header 0 if the pins choose the image at a cold boot
abbrev pub is_cold_mode : ℕ → ℕ → Bool
is_cold_mode offset byte = (offset == 6) && (byte == 0x10)

-- whether headers may have a byte at an offset: any byte in an address, or else the one that each header has there
abbrev pub is_header_byte : ℕ → ℕ → Bool
is_header_byte offset byte =
    is_address_place (offset % 32) || (is_cold_mode offset byte || (byte == get_or (header false 0) (offset % 32) 0))

-- whether the byte at an offset is one that headers may have there
abbrev pub is_formed : List ℕ → ℕ → Bool
is_formed bytes offset = is_header_byte offset (byte_at bytes offset)

-- the mode of header 0
abbrev pub is_cold : List ℕ → Bool
is_cold bytes = byte_at bytes 6 == 0x10

-- the address in a header: three bytes, the most significant first
abbrev pub address_of : List ℕ → ℕ → ℕ
address_of bytes index = 65536 * byte_at bytes (32 * index + 9) + 256 * byte_at bytes (32 * index + 10) + byte_at bytes (32 * index + 11)

-- the address in an entry
abbrev pub entry_address : List ℕ → ℕ → ℕ
entry_address bytes entry = address_of bytes (entry + 1)

-- an image begins after the headers, and within the file
abbrev pub is_within : List ℕ → ℕ → Bool
is_within bytes address = nat_le 160 address && nat_lt address (length bytes)
