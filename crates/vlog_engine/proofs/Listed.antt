-- The lists of the wires on which cells bear.
use Rattle.std.proofs.Common.{◌≡◌, ℕ, ◌<◌, true, false, eqb, List, [], ◌∷◌, ◌++◌, ap, arith, fold, get_or, inl, inr, length, refl, set, sym, ◌∙◌}
use Rattle.std.specs.Prelude.{◌||◌}
use Rattle.std.proofs.lemmas.Bool.{cases_Bool, cases_eq, cases_lt, eq-eqb, eqb-true}
use Rattle.std.proofs.lemmas.List.{get_or-set_other, get_or-set_same, length-set, set_past}
use Rattle.vlog_semantics.specs.declared.gates.Gate.{Gate}
use Rattle.vlog_engine.specs.Marks.{has, touches, with_gate, with_reader}

push-kept : (numbers : List ℕ) (last number : ℕ) → has numbers number ≡ true → has (numbers ++ last ∷ []) number ≡ true
push-kept [] last number is = absurd cc
push-kept (first ∷ numbers) last number is =
    elim (cases_Bool (eqb first number)) [
      | inl same ↦ ap (λ b. b || has (numbers ++ last ∷ []) number) same
      | inr apart ↦ ap (λ b. b || has (numbers ++ last ∷ []) number) apart ∙ push-kept numbers last number (ap (λ b. b || has numbers number) (sym apart) ∙ is)
    ]

push-here : (numbers : List ℕ) (last : ℕ) → has (numbers ++ last ∷ []) last ≡ true
push-here [] last = ap (λ b. b || false) (eq-eqb last last refl)
push-here (first ∷ numbers) last =
    elim (cases_Bool (eqb first last)) [
      | inl same ↦ ap (λ b. b || has (numbers ++ last ∷ []) last) same
      | inr apart ↦ ap (λ b. b || has (numbers ++ last ∷ []) last) apart ∙ push-here numbers last
    ]

pub length-reader : (place : ℕ) (lists : List (List ℕ)) (cell : ℕ) → length (with_reader place lists cell) ≡ length lists
length-reader place lists cell = length-set lists cell (get_or lists cell [] ++ place ∷ [])

pub reader-kept : (place : ℕ) (lists : List (List ℕ)) (other cell number : ℕ) → has (get_or lists cell []) number ≡ true → has (get_or (with_reader place lists other) cell []) number ≡ true
reader-kept place lists other cell number is =
    let more : List ℕ = get_or lists other [] ++ place ∷ [] in
    elim (cases_eq cell other) [
      | inl same ↦
          (elim (cases_lt other (length lists)) [
            | inl inside ↦
                ap (λ k. has (get_or (set lists other more) k []) number) same
                ∙ ap (λ list. has list number) (get_or-set_same lists other more [] inside)
                ∙ push-kept (get_or lists other []) place number (ap (λ k. has (get_or lists k []) number) (sym same) ∙ is)
            | inr past ↦ ap (λ all. has (get_or all cell []) number) (set_past lists other more past) ∙ is
          ])
      | inr apart ↦ ap (λ list. has list number) (get_or-set_other lists other cell more [] apart) ∙ is
    ]

pub reader-here : (place : ℕ) (lists : List (List ℕ)) (cell : ℕ) → cell < length lists → has (get_or (with_reader place lists cell) cell []) place ≡ true
reader-here place lists cell inside =
    ap (λ list. has list place) (get_or-set_same lists cell (get_or lists cell [] ++ place ∷ []) [] inside) ∙ push-here (get_or lists cell []) place

length-readers : (place : ℕ) (lists : List (List ℕ)) (cells : List ℕ) → length (fold (with_reader place) lists cells) ≡ length lists
length-readers place lists [] = refl
length-readers place lists (cell ∷ cells) = length-readers place (with_reader place lists cell) cells ∙ length-reader place lists cell

readers-kept : (place : ℕ) (lists : List (List ℕ)) (cells : List ℕ) (cell number : ℕ) → has (get_or lists cell []) number ≡ true → has (get_or (fold (with_reader place) lists cells) cell []) number ≡ true
readers-kept place lists [] cell number is = is
readers-kept place lists (other ∷ cells) cell number is = readers-kept place (with_reader place lists other) cells cell number (reader-kept place lists other cell number is)

readers-here : (place : ℕ) (lists : List (List ℕ)) (cells : List ℕ) (cell : ℕ) → cell < length lists → has cells cell ≡ true → has (get_or (fold (with_reader place) lists cells) cell []) place ≡ true
readers-here place lists [] cell inside is = absurd cc
readers-here place lists (other ∷ cells) cell inside is =
    elim (cases_Bool (eqb other cell)) [
      | inl same ↦
          readers-kept place (with_reader place lists other) cells cell place
          (ap (λ k. has (get_or (with_reader place lists k) cell []) place) (eqb-true other cell same) ∙ reader-here place lists cell inside)
      | inr apart ↦
          readers-here place (with_reader place lists other) cells cell (omega (arith, inside, length-reader place lists other)) (ap (λ b. b || has cells cell) (sym apart) ∙ is)
    ]

pub length-gate : (place : ℕ) (lists : List (List ℕ)) (gate : Gate) → length (with_gate place lists gate) ≡ length lists
length-gate place lists gate = length-reader place (fold (with_reader place) lists gate.ins) gate.slot ∙ length-readers place lists gate.ins

pub gate-kept : (place : ℕ) (lists : List (List ℕ)) (gate : Gate) (cell number : ℕ) → has (get_or lists cell []) number ≡ true → has (get_or (with_gate place lists gate) cell []) number ≡ true
gate-kept place lists gate cell number is =
    reader-kept place (fold (with_reader place) lists gate.ins) gate.slot cell number (readers-kept place lists gate.ins cell number is)

pub gate-here : (place : ℕ) (lists : List (List ℕ)) (gate : Gate) (cell : ℕ) → cell < length lists → touches gate cell ≡ true → has (get_or (with_gate place lists gate) cell []) place ≡ true
gate-here place lists gate cell inside near =
    elim (cases_Bool (eqb gate.slot cell)) [
      | inl same ↦
          ap (λ k. has (get_or (with_reader place (fold (with_reader place) lists gate.ins) k) cell []) place) (eqb-true gate.slot cell same)
          ∙ reader-here place (fold (with_reader place) lists gate.ins) cell (omega (arith, inside, length-readers place lists gate.ins))
      | inr apart ↦
          reader-kept place (fold (with_reader place) lists gate.ins) gate.slot cell place
          (readers-here place lists gate.ins cell inside (ap (λ b. b || has gate.ins cell) (sym apart) ∙ near))
    ]
