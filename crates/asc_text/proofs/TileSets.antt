-- The flags of a set of tiles.
use Rattle.std.proofs.Common.{◌≡◌, ℕ, ◌+◌, ◌*◌, ◌<◌, ◌==◌, Bool, true, false, ◌&&◌, ◌||◌, List, length, arith}
use Rattle.std.specs.Prelude.{set, replicate}
use Rattle.std.proofs.lemmas.Bool.Decides.{nat_tests}
use Rattle.std.proofs.lemmas.Grind.{common_steps}
use Rattle.std.proofs.lemmas.List.{get_or-replicate}
use Rattle.asc_text.specs.inside.TileSets.{has_tile}

-- no tile is among none
pub has_tile-none : (x y : ℕ) → x < 34 → y < 34 → has_tile (replicate 1156 false) x y ≡ false
has_tile-none x y x_in y_in = get_or-replicate 1156 (34 * y + x) false false (omega arith)

-- with a tile more, the tiles are that one and those before
pub has_tile-more : (flags : List Bool) (x y v w : ℕ) → length flags ≡ 1156 → x < 34 → y < 34 → v < 34 → w < 34
    → has_tile (set flags (34 * y + x) true) v w ≡ (has_tile flags v w || ((v == x) && (w == y)))
has_tile-more flags x y v w whole x_in y_in v_in w_in = grind (arith, common_steps, nat_tests)
