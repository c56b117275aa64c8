-- How the code resolves names.
use Rattle.vlog_semantics.specs.declared.places.Places.{Places as Held}
use Rattle.vlog_semantics.specs.Plans.{Places}
use Rattle.vlog_semantics.specs.Slots.{slot_of}

-- how names are resolved by these slots
abbrev pub places_in : Held → Places
places_in held = record {
  pins = slot_of held.pins;
  bits = slot_of held.bits;
  registers = slot_of held.registers;
  words = slot_of held.words;
  memories = slot_of held.memories;
}
