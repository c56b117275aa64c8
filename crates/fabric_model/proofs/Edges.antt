-- Edges: a net that keeps its bit has none, and the next state looks at the edges of users alone.
use Rattle.std.proofs.Common.{◌≡◌, ℕ, Bool, true, false, List, map, refl}
use Rattle.std.specs.Prelude.{All, Option, Some, None, not, ◌&&◌, if◌then◌else◌}
use Rattle.std.proofs.lemmas.List.Elements.{All-weaker}
use Rattle.shared_lemmas.proofs.Lists.{map-same}
use Rattle.fabric_model.specs.declared.register.Register.{Register}
use Rattle.fabric_model.specs.declared.ram.RamCell.{RamCell}
use Rattle.fabric_model.specs.Fabric.{Fabric, numbered}
use Rattle.fabric_model.specs.Values.{State, is_connected}
use Rattle.fabric_model.specs.Steps.{has_edge, Edges, bit_after, words_after, read_after, state_after}
use Rattle.fabric_model.proofs.Within.{All-numbered}

-- ---- nets that keep their bits

still-bit : (inverted bit : Bool) → (if inverted then bit && not bit else not bit && bit) ≡ false
still-bit true true = refl
still-bit true false = refl
still-bit false true = refl
still-bit false false = refl

-- a clock that keeps its bit has no edge
pub edge-still : (inverted : Bool) (clock : Option ℕ) (before after : ℕ → Bool) → ((net : ℕ) → clock ≡ Some net → before net ≡ after net)
    → has_edge inverted clock before after ≡ false
edge-still inverted None before after same = refl
edge-still inverted (Some net) before after same = rw (same net refl) (still-bit inverted (after net))

-- ---- edges that agree

-- two ways to say which users have an edge agree at each user
pub record EdgesAgree (fabric : Fabric) (one two : Edges) : Type 0 where
  pub registers : All (λ register. one register.neg register.clk ≡ two register.neg register.clk) fabric.registers
  pub reads : All (λ ram. one ram.rneg ram.rclk ≡ two ram.rneg ram.rclk) fabric.rams
  pub writes : All (λ ram. one ram.wneg ram.wclk ≡ two ram.wneg ram.wclk) fabric.rams

module _ (one two : Edges) where
  module _ (connected bit : ℕ → Bool) (state : State) where
    bit-same : (pins : List Bool) (place : ℕ × Register) → one place.1.neg place.1.clk ≡ two place.1.neg place.1.clk
        → bit_after connected pins bit one state place ≡ bit_after connected pins bit two state place
    bit-same pins place agree = rw agree refl

    words-same : (place : ℕ × RamCell) → one place.1.wneg place.1.wclk ≡ two place.1.wneg place.1.wclk
        → words_after connected bit one state place ≡ words_after connected bit two state place
    words-same place agree = rw agree refl

    read-same : (place : ℕ × RamCell) → one place.1.rneg place.1.rclk ≡ two place.1.rneg place.1.rclk
        → read_after connected bit one state place ≡ read_after connected bit two state place
    read-same place agree = rw agree refl

  -- what is made of parts with their places is the same where it is so for each part
  each-same : {A B : Type 0} (P : A → Type 0) (first second : ℕ × A → B) → ((place : ℕ × A) → P place.1 → first place ≡ second place)
      → (parts : List A) → All P parts → map first (numbered parts) ≡ map second (numbered parts)
  each-same {A} P first second same parts agree =
      map-same first second (numbered parts)
      (All-weaker (λ (place : ℕ × A). P place.1) (λ (place : ℕ × A). first place ≡ second place) same (numbered parts) (All-numbered P 0 parts agree))

  -- the next state looks at the edges of users alone
  pub state-same : (fabric : Fabric) (pins : List Bool) (state : State) (bit : ℕ → Bool) → EdgesAgree fabric one two
      → state_after fabric pins state bit one ≡ state_after fabric pins state bit two
  unfolding state_after
  state-same fabric pins state bit agree =
      let connected = is_connected fabric in
      let bits = each-same (λ (register : Register). one register.neg register.clk ≡ two register.neg register.clk)
      (bit_after connected pins bit one state) (bit_after connected pins bit two state) (bit-same connected bit state pins) fabric.registers agree.registers in
      let reads = each-same (λ (ram : RamCell). one ram.rneg ram.rclk ≡ two ram.rneg ram.rclk)
      (read_after connected bit one state) (read_after connected bit two state) (read-same connected bit state) fabric.rams agree.reads in
      let words = each-same (λ (ram : RamCell). one ram.wneg ram.wclk ≡ two ram.wneg ram.wclk)
      (words_after connected bit one state) (words_after connected bit two state) (words-same connected bit state) fabric.rams agree.writes in
      rw (bits, reads, words) refl
