-- What causes mean, by their words, in groups. check/documents.py --causes makes this file of docs/FORMATS.md.
use Rattle.std.specs.Prelude.{ℕ, List, bytes_eq, codes, if◌then◌else◌, Option, None, Some}
use Rattle.cause_texts.specs.declared.texts.TheConstants as texts

-- what a cause about the text means
unfoldable pub about_texts : List ℕ → Option (List ℕ)
about_texts word =
    if bytes_eq word (codes "CommentByte") then Some texts.COMMENT_BYTE.now
    else if bytes_eq word (codes "Coordinates") then Some texts.COORDINATES.now
    else if bytes_eq word (codes "Device") then Some texts.DEVICE.now
    else if bytes_eq word (codes "ExtraPlace") then Some texts.EXTRA_PLACE.now
    else if bytes_eq word (codes "Hex") then Some texts.HEX.now
    else if bytes_eq word (codes "Kind") then Some texts.KIND.now
    else if bytes_eq word (codes "NoDevice") then Some texts.NO_DEVICE.now
    else if bytes_eq word (codes "Repeated") then Some texts.REPEATED.now
    else if bytes_eq word (codes "Row") then Some texts.ROW.now
    else if bytes_eq word (codes "Setting") then Some texts.SETTING.now
    else if bytes_eq word (codes "Statement") then Some texts.STATEMENT.now
    else if bytes_eq word (codes "StrayData") then Some texts.STRAY_DATA.now
    else None

-- what a cause about the bitstream means
unfoldable pub about_bitstreams : List ℕ → Option (List ℕ)
about_bitstreams word =
    if bytes_eq word (codes "BadBank") then Some texts.BAD_BANK.now
    else if bytes_eq word (codes "BadHeight") then Some texts.BAD_HEIGHT.now
    else if bytes_eq word (codes "BadMode") then Some texts.BAD_MODE.now
    else if bytes_eq word (codes "BadRange") then Some texts.BAD_RANGE.now
    else if bytes_eq word (codes "BadWidth") then Some texts.BAD_WIDTH.now
    else if bytes_eq word (codes "Check") then Some texts.CHECK.now
    else if bytes_eq word (codes "DataEnd") then Some texts.DATA_END.now
    else if bytes_eq word (codes "LongPayload") then Some texts.LONG_PAYLOAD.now
    else if bytes_eq word (codes "NoPreamble") then Some texts.NO_PREAMBLE.now
    else if bytes_eq word (codes "Truncated") then Some texts.TRUNCATED.now
    else if bytes_eq word (codes "UnknownCommand") then Some texts.UNKNOWN_COMMAND.now
    else None

-- what a cause about boot files or memory words means
unfoldable pub about_boot_files : List ℕ → Option (List ℕ)
about_boot_files word =
    if bytes_eq word (codes "Address") then Some texts.ADDRESS.now
    else if bytes_eq word (codes "Align") then Some texts.ALIGN.now
    else if bytes_eq word (codes "Depth") then Some texts.DEPTH.now
    else if bytes_eq word (codes "Digit") then Some texts.DIGIT.now
    else if bytes_eq word (codes "header") then Some texts.HEADER.now
    else if bytes_eq word (codes "image") then Some texts.IMAGE.now
    else if bytes_eq word (codes "NoImage") then Some texts.NO_IMAGE.now
    else if bytes_eq word (codes "PowerOn") then Some texts.POWER_ON.now
    else if bytes_eq word (codes "SameColumns") then Some texts.SAME_COLUMNS.now
    else if bytes_eq word (codes "Shape") then Some texts.SHAPE.now
    else if bytes_eq word (codes "Short") then Some texts.SHORT.now
    else if bytes_eq word (codes "TooMany") then Some texts.TOO_MANY.now
    else None

-- what a cause about layout files or the chip database means
unfoldable pub about_databases : List ℕ → Option (List ℕ)
about_databases word =
    if bytes_eq word (codes "BitName") then Some texts.BIT_NAME.now
    else if bytes_eq word (codes "BitRange") then Some texts.BIT_RANGE.now
    else if bytes_eq word (codes "CellBits") then Some texts.CELL_BITS.now
    else if bytes_eq word (codes "NameTwice") then Some texts.NAME_TWICE.now
    else if bytes_eq word (codes "NetRange") then Some texts.NET_RANGE.now
    else if bytes_eq word (codes "NetTwice") then Some texts.NET_TWICE.now
    else if bytes_eq word (codes "Number") then Some texts.NUMBER.now
    else if bytes_eq word (codes "Place") then Some texts.PLACE.now
    else if bytes_eq word (codes "TileKind") then Some texts.TILE_KIND.now
    else if bytes_eq word (codes "ValueLength") then Some texts.VALUE_LENGTH.now
    else if bytes_eq word (codes "ValuesTwice") then Some texts.VALUES_TWICE.now
    else if bytes_eq word (codes "Width") then Some texts.WIDTH.now
    else None

-- what a cause about the Verilog subset means
unfoldable pub about_modules : List ℕ → Option (List ℕ)
about_modules word =
    if bytes_eq word (codes "AssignedTwice") then Some texts.ASSIGNED_TWICE.now
    else if bytes_eq word (codes "Form") then Some texts.FORM.now
    else if bytes_eq word (codes "Long") then Some texts.LONG.now
    else if bytes_eq word (codes "Order") then Some texts.ORDER.now
    else if bytes_eq word (codes "Pin") then Some texts.PIN.now
    else if bytes_eq word (codes "Repeat") then Some texts.REPEAT.now
    else if bytes_eq word (codes "Syntax") then Some texts.SYNTAX.now
    else if bytes_eq word (codes "Undeclared") then Some texts.UNDECLARED.now
    else if bytes_eq word (codes "Wire") then Some texts.WIRE.now
    else if bytes_eq word (codes "WireTwice") then Some texts.WIRE_TWICE.now
    else None

-- what a cause about explained text, differences, pin files or designs that aren't taken means
unfoldable pub about_designs : List ℕ → Option (List ℕ)
about_designs word =
    if bytes_eq word (codes "Cascade") then Some texts.CASCADE.now
    else if bytes_eq word (codes "Clock") then Some texts.CLOCK.now
    else if bytes_eq word (codes "Images") then Some texts.IMAGES.now
    else if bytes_eq word (codes "Loop") then Some texts.LOOP.now
    else if bytes_eq word (codes "NoTile") then Some texts.NO_TILE.now
    else if bytes_eq word (codes "Package") then Some texts.PACKAGE.now
    else if bytes_eq word (codes "PinMode") then Some texts.PIN_MODE.now
    else if bytes_eq word (codes "Pll") then Some texts.PLL.now
    else if bytes_eq word (codes "TwoDrivers") then Some texts.TWO_DRIVERS.now
    else None
