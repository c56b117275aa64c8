-- The names of PORTS, token by token.
use Rattle.std.proofs.Common.{◌≡◌, ℕ, List, [], ◌∷◌, ap, sym, ◌∙◌}
use Rattle.std.specs.Prelude.{Ok, Err}
use Rattle.vlog_tokens.specs.Tokens.{TokenValue, Spot, spot}
use Rattle.vlog_forms.specs.Reading.{Found, read_slots, read_tokens}
use Rattle.vlog_tokens.specs.declared.fixed.Fixed.TheVariants as sign
use Rattle.vlog_tokens.specs.Tokens.{TokenValue as token}
use Rattle.vlog_forms.specs.Outcome.{Turn, PortStep, port_step, next_port, port_names, header_slots, with_head, with_names, with_semicolon, read_header}
use Rattle.vlog_forms.specs.Outcome.Turn.{Opened}

pub turn-none : (end : ℕ) (turn : Turn) (names : List Found) (spots : List Spot) → spots ≡ [] → port_names end turn names spots ≡ Err end
unfolding port_names
turn-none end turn names spots is = ap (port_names end turn names) is

pub turn-step : (end : ℕ) (turn : Turn) (names : List Found) (spots : List Spot) (at : ℕ) (one : TokenValue) (rest : List Spot) (step : PortStep) → spots ≡ spot at one ∷ rest → step ≡ port_step turn one
    → port_names end turn names spots ≡ next_port step at names rest (λ next found. port_names end next found rest)
unfolding port_names
turn-step end turn names spots at one rest step is steps =
    ap (port_names end turn names) is ∙ ap (λ each. next_port each at names rest (λ next found. port_names end next found rest)) (sym steps)

-- ---- the header, part by part

pub head-stuck : (end : ℕ) (spots : List Spot) (stuck : ℕ) → read_slots end header_slots [] spots ≡ Err stuck → read_header end spots ≡ Err stuck
head-stuck end spots stuck is = ap (with_head end) is

pub names-stuck : (end : ℕ) (spots : List Spot) (head : List Found) (listed : List Spot) (stuck : ℕ) → read_slots end header_slots [] spots ≡ Ok (head, listed) → port_names end Opened [] listed ≡ Err stuck
    → read_header end spots ≡ Err stuck
names-stuck end spots head listed stuck is names = ap (with_head end) is ∙ ap (with_names end head) names

pub semicolon-read : (end : ℕ) (spots : List Spot) (head : List Found) (listed : List Spot) (names : List Found) (closed : List Spot) → read_slots end header_slots [] spots ≡ Ok (head, listed)
    → port_names end Opened [] listed ≡ Ok (names, closed) → read_header end spots ≡ with_semicolon head names (read_tokens end (token.fixed sign.Semicolon ∷ []) closed)
semicolon-read end spots head listed names closed is names_are = ap (with_head end) is ∙ ap (with_names end head) names_are
