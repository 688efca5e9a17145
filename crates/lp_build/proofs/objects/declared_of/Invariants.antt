use Rattle.std.proofs.Common.{◌≡◌, map, take}
use Rattle.lp_term.specs.Memo.{AreMade}
use Rattle.lp_term.specs.Nodes.{Extends, Nodes}
use Rattle.lp_term.specs.Same.{same_map}
use Rattle.lp_code.specs.Naming.{scheme_in}
use Rattle.lp_model.specs.Readings.{scheme_of}
use Rattle.lp_build.proofs.objects.declared_of.Given as goal

abbrev pub invariant-loop-entry : goal.invariant-loop-entry
invariant-loop-entry l = record {
  kept : Extends l.fn.bank l.bank;
  made : AreMade same_map l.signature.bank l.bank l.changed;
  declared : (later : Nodes) → Extends l.bank later → map (scheme_of later) l.declared.items ≡ map (λ e. scheme_in l.signature.bank e.type_vars e.scheme.0) (take l.entry-index l.entries);
}
