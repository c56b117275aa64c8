-- Parts of a stream that are written one after the other are the canonical bytes.
use Rattle.std.proofs.Common.{◌≡◌, ℕ, List, [], ◌∷◌, ◌++◌, length, drop, sym, ap, ◌∙◌, drop_at}
use Rattle.bit_plane.specs.BitList.{bits_of}
use Rattle.ice_image.specs.Configuration.{Configuration}
use Rattle.bin_stream.specs.CheckValue.{check_value}
use Rattle.bin_stream.specs.Front.{preamble}
use Rattle.bin_stream.specs.Commands.{Short, spelling, range_opcode}
use Rattle.bin_stream.specs.CanonicalBytes.{canonical_bytes, checked_bytes, comment_bytes, range_number, range_command, reset_command, two_bytes, wake_up_command}

-- the bytes after each of the writes; the check value is that of the bytes after the reset
pub record AreWritten (image : Configuration) (all : List ℕ) : Type 0 where
  pub at_first : List ℕ
  pub at_comment : List ℕ
  pub at_preamble : List ℕ
  pub at_range : List ℕ
  pub at_reset : List ℕ
  pub at_checked : List ℕ
  pub at_value : List ℕ
  pub at_wake_up : List ℕ
  pub start : ℕ
  pub number : ℕ
  pub first : at_first ≡ []
  pub comment : at_comment ≡ at_first ++ comment_bytes image.comment
  pub preamble_is : at_preamble ≡ at_comment ++ preamble
  pub number_is : number ≡ range_number image.settings.range
  pub range : at_range ≡ at_preamble ++ spelling (Short range_opcode (number ∷ []))
  pub reset : at_reset ≡ at_range ++ reset_command
  pub start_is : start ≡ length at_reset
  pub checked : at_checked ≡ at_reset ++ checked_bytes image
  pub value : at_value ≡ at_checked ++ two_bytes (check_value (bits_of (drop start at_checked)))
  pub wake_up : at_wake_up ≡ at_value ++ wake_up_command
  pub last : all ≡ at_wake_up ++ 0 ∷ []

pub assembled : (image : Configuration) (all : List ℕ) → AreWritten image all → all ≡ canonical_bytes image
unfolding canonical_bytes
assembled image all w =
    let following : drop w.start w.at_checked ≡ checked_bytes image = ap (drop w.start) w.checked ∙ drop_at w.at_reset (checked_bytes image) w.start (sym w.start_is) in
    let value = two_bytes (check_value (bits_of (checked_bytes image))) in
    let comment : w.at_comment ≡ comment_bytes image.comment = w.comment ∙ ap (λ bytes. bytes ++ comment_bytes image.comment) w.first in
    let range : w.at_range ≡ w.at_preamble ++ range_command image.settings.range = w.range ∙ ap (λ n. w.at_preamble ++ spelling (Short range_opcode (n ∷ []))) w.number_is in
    let front : w.at_reset ≡ comment_bytes image.comment ++ preamble ++ range_command image.settings.range ++ reset_command =
    w.reset ∙ ap (λ bytes. bytes ++ reset_command) (range ∙ ap (λ bytes. bytes ++ range_command image.settings.range) (w.preamble_is ∙ ap (λ bytes. bytes ++ preamble) comment)) in
    w.last
    ∙ ap (λ bytes. bytes ++ 0 ∷ []) (w.wake_up
    ∙ ap (λ bytes. bytes ++ wake_up_command) (w.value
    ∙ ap (λ bytes. w.at_checked ++ two_bytes (check_value (bits_of bytes))) following
    ∙ ap (λ bytes. bytes ++ value) (w.checked ∙ ap (λ bytes. bytes ++ checked_bytes image) front)))
