-- The images of a boot file, as files that are loaded
mod Images
-- The first text under the layouts of a layout file, and the answer for it
mod FirstText
-- What the records of packing and unpacking say of the answers
mod Packed
-- A stop that tells the fault of a boot file
mod SplitStops
-- The names of the images that are stored, each once
mod StoredNames
-- The headers of `icemulti --as-stock` boot the stored images in their order
mod StoredOrder
-- The definitions of stored images, worked out by hand
mod WorkedStored
