-- What inputs read.
use Rattle.std.specs.Prelude.{ℕ, true, false, List, [], option_to_list, Option}
use Rattle.fabric_model.specs.declared.signal.Signal.{Signal}
use Rattle.fabric_model.specs.declared.signal.Signal.TheVariants as signal

-- an input that is 0 if it is unconnected, as all inputs are but clock enables and output enables
abbrev pub net_or_0 : Option ℕ → Signal
net_or_0 net = signal.Net net false

-- an input that is 1 if it is unconnected: a clock enable or an output enable
abbrev pub net_or_1 : Option ℕ → Signal
net_or_1 net = signal.Net net true

-- the net that an input reads, if it reads one
abbrev pub signal_nets : Signal → List ℕ
signal_nets (signal.Net net otherwise) = option_to_list net
signal_nets (signal.Input place) = []
signal_nets (signal.Register place) = []
