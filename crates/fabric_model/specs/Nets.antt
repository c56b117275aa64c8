-- Nets by their names (Project IceStorm, 'icebox chip database'), and the nets that are read.
use Rattle.std.specs.Prelude.{ℕ, Bool, false, ◌&&◌, ◌||◌, List, ◌++◌, decimal, codes, ◌==◌, Option, Some, None}
use Rattle.std.specs.List.{list_any}
use Rattle.ice_image.specs.Configuration.{Configuration}
use Rattle.chipdb_reader.specs.Database.{Database, Link}
use Rattle.chipdb_reader.specs.Lookups.{net_at}
use Rattle.fabric_model.specs.On.{is_link_on}

-- the net that has the name at (x, y), if there is one
abbrev pub net_named : Database → ℕ → ℕ → List ℕ → Option ℕ
net_named db x y name = net_at x y name db.names

-- ---- names with numbers

-- a name with a number in it, such as `io_1/D_IN_0`
abbrev pub with_number : List ℕ → ℕ → List ℕ → List ℕ
with_number before n after = before ++ (decimal n ++ after)

-- a name with a number at its end, such as `ram/MASK_7`
abbrev pub ending_in : List ℕ → ℕ → List ℕ
ending_in before n = before ++ decimal n

-- ---- nets of pins

-- the net of a port of pin n, such as `io_n/D_IN_0`
abbrev pub io_net : Database → ℕ → ℕ → ℕ → List ℕ → Option ℕ
io_net db x y n port = net_named db x y (with_number (codes "io_") n port)

-- the net of a port that the pins of a tile share, such as `io_global/inclk`
abbrev pub io_shared_net : Database → ℕ → ℕ → List ℕ → Option ℕ
io_shared_net db x y port = net_named db x y (codes "io_global/" ++ port)

-- ---- nets that are read

-- whether a link that is on comes from the net
abbrev pub is_source : Configuration → ℕ → Link → Bool
is_source image net link = is_link_on image link && (link.src == net)

-- whether a link that is on has the net at one of its ends
abbrev pub is_end : Configuration → ℕ → Link → Bool
is_end image net link = is_link_on image link && ((link.src == net) || (link.dst == net))

-- a net is read if it is the source of a buffer that is on, or an end of a routing that is on
unfoldable pub is_read : Database → Configuration → ℕ → Bool
is_read db image net = list_any (is_source image net) db.buffers || list_any (is_end image net) db.routings

-- whether a net is read; false if it is missing
abbrev pub is_some_read : Database → Configuration → Option ℕ → Bool
is_some_read db image None = false
is_some_read db image (Some net) = is_read db image net
