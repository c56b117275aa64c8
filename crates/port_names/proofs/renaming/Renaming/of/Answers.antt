use Rattle.std.proofs.Common.{◌≡◌, ℕ, ◌+◌, List, [], ◌∷◌, ◌++◌, Vec, Global, take, sym, ap, subst, arith, ◌∙◌}
use Rattle.std.specs.Prelude.{bytes_eq}
use Rattle.std.specs.Map.{lookup}
use Rattle.std.proofs.lemmas.List.{take_more}
use Rattle.std.proofs.lemmas.List.Elements.{All-nil}
use Rattle.vlog_module.specs.Names.{IsName}
use Rattle.port_names.specs.Fresh.{AreNames}
use Rattle.port_names.specs.Listed.{Lists}
use Rattle.port_names.proofs.Given.{AreNames-push}
use Rattle.port_names.proofs.renaming.Renaming.of.Goals as goal

pub loop-pair-init : goal.loop-pair-init
unfolding Lists
loop-pair-init c = record {
  lists = λ name. ap (λ entries. lookup (λ (key : Vec ℕ Global). bytes_eq name key.items) entries) c.new.ensures.empty;
  named = record { old = All-nil IsName; «new» = All-nil IsName };
}

pub loop-pair-preserved : goal.loop-pair-preserved
loop-pair-preserved c =
    let pairs : List (List ℕ × List ℕ) = c.args.pairs.now in
    let i : ℕ = c.loop-pair.pair-index in
    let pair : List ℕ × List ℕ = c.pair-item.result in
    let next : take (i + 1) pairs ≡ take i pairs ++ pair ∷ [] = take_more pairs i pair (omega arith) ∙ ap (λ one. take i pairs ++ one ∷ []) (sym c.pair-item.is) in
    record {
      lists = subst (Lists c.add.new.self) (sym next) (c.in_ok-add.ensures.lists (take i pairs) c.loop-pair.invariant.lists);
      named = subst AreNames (sym next) (AreNames-push (take i pairs) pair c.loop-pair.invariant.named c.add.ensures.old_named c.add.ensures.new_named);
    }
