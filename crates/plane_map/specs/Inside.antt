-- The layout that the fields of a `Layout` of the code represent.
use Rattle.std.specs.Prelude.{◌≡◌, ℕ, zero, suc, ◌-◌, ◌++◌, List, [], ◌∷◌, take, replicate}
use Rattle.plane_map.specs.declared.layout.Layout.TheInside.{Inside}
use Rattle.plane_map.specs.Layout.{Layout, IsLayout, half_width, start_in}

-- where each of the first columns of tiles starts
unfoldable pub starts_below : List ℕ → ℕ → List ℕ
starts_below widths zero = []
starts_below widths (suc n) = starts_below widths n ++ start_in widths n ∷ []

-- the layout that fields keep
abbrev pub laid_out : Inside → Layout
laid_out a = record {
  device = a.device;
  widths = take (half_width a.device) a.widths;
  side_columns = a.side_columns;
  pad_columns = a.pad_columns;
  pad_rows = a.pad_rows;
  banks = a.banks;
  mirror = a.mirror;
  flip = a.flip;
  pad_mirror = a.pad_mirror;
  ram_flip = a.ram_flip;
}

-- the fields keep a layout: zeros fill up the widths, and the starts are computed from the widths
pub record IsInside (a : Inside) : Type 0 where
  pub layout : IsLayout (laid_out a)
  pub padded : take (half_width a.device) a.widths ++ replicate (17 - half_width a.device) 0 ≡ a.widths
  pub starts : starts_below a.widths 17 ≡ a.starts

-- the fields that keep a layout
abbrev pub inside_of : Layout → Inside
inside_of layout = record {
  device = layout.device;
  widths = layout.widths ++ replicate (17 - half_width layout.device) 0;
  starts = starts_below (layout.widths ++ replicate (17 - half_width layout.device) 0) 17;
  side_columns = layout.side_columns;
  pad_columns = layout.pad_columns;
  pad_rows = layout.pad_rows;
  banks = layout.banks;
  mirror = layout.mirror;
  flip = layout.flip;
  pad_mirror = layout.pad_mirror;
  ram_flip = layout.ram_flip;
}
