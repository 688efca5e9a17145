use Rattle.std.proofs.Common.{◌<◌, ◌≡◌, length, map, take, false, None, []}
use Rattle.std.specs.Prelude.{All}
use Rattle.lp_term.specs.Within.{AreTermsOf}
use Rattle.lp_plain.specs.Heads.{trees_of, pair_in, AreAll, IsDone}
use Rattle.lp_plain.proofs.head.head_args.Given as goal

abbrev pub invariant-variables : goal.invariant-variables
invariant-variables l = record {
  seen : AreAll false l.seen.items;
  count : length l.seen.items ≡ l.number;
  slots : AreAll None l.made.slots.items;
  slot_count : length l.made.slots.items ≡ l.number;
  pairs : l.made.pairs.items ≡ [];
}

abbrev pub invariant-arguments : goal.invariant-arguments
invariant-arguments l = record {
  within : AreTermsOf l.bank l.args → All (λ p. p.term.0 < length l.bank.terms) l.made.pairs.items;
  done : IsDone l.vars (trees_of l.bank (take l.place l.args)) l.seen.items l.made.slots.items (map (pair_in l.bank) l.made.pairs.items);
}
