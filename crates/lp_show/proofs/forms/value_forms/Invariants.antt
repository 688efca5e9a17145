use Rattle.std.proofs.Common.{◌≡◌, ◌<◌, ◌≤◌, ◌-◌, ◌++◌, List, drop, length, map}
use Rattle.std.specs.Prelude.{All}
use Rattle.lp_calculus.specs.Term.{Term}
use Rattle.lp_term.specs.Frame.{in_order}
use Rattle.lp_term.specs.Nodes.{Extends}
use Rattle.lp_term.specs.declared.reduce.TermRefusal.{TermRefusal}
use Rattle.lp_show.specs.Forms.{AreForms, IsFirstDeep, values_of}
use Rattle.lp_show.proofs.forms.value_forms.Given as goal

abbrev pub invariant-values : goal.invariant-values
invariant-values l = record {
  within : l.at ≤ length l.names;
  kept : Extends l.fn.bank l.bank;
  held : All (λ t. t.0 < length l.bank.terms) l.forms.items;
  forms : (fs : List Term) → AreForms (map (λ n. n.items) (drop l.at l.names)) (in_order l.fn.bank (drop l.at l.values.items)) fs →
      AreForms (map (λ n. n.items) l.names) (in_order l.fn.bank l.values.items) (in_order l.bank l.forms.items ++ fs);
  deep : (ts : List Term) (e : TermRefusal) → IsFirstDeep (values_of (map (λ n. n.items) (drop l.at l.names)) (in_order l.fn.bank (drop l.at l.values.items)) ++ ts) e →
      IsFirstDeep (values_of (map (λ n. n.items) l.names) (in_order l.fn.bank l.values.items) ++ ts) e;
}

abbrev pub decreases-values : goal.decreases-values
decreases-values l = length l.names - l.at
