-- Banks and bindings that have grown twice.
use Rattle.std.proofs.Common.{◌∙◌, List, [], ◌++◌, sym, ap}
use Rattle.std.proofs.lemmas.List.{append_assoc, append-nil}
use Rattle.lp_pattern.specs.declared.bindings.Bindings.{Bindings}
use Rattle.lp_pattern.specs.Growing.{GoesOn, Grows}

pub goes_on_same : {A : Type 0} (xs : List A) → GoesOn xs xs
goes_on_same xs = ([], sym (append-nil xs))

pub goes_on_then : {A : Type 0} (xs ys zs : List A) → GoesOn xs ys → GoesOn ys zs → GoesOn xs zs
goes_on_then xs ys zs e f = (e.0 ++ f.0, f.1 ∙ ap (λ l. l ++ f.0) e.1 ∙ append_assoc xs e.0 f.0)

pub grows_same : (a : Bindings) → Grows a a
grows_same a = record { terms = goes_on_same a.terms.entries; types = goes_on_same a.types.entries }

pub grows_then : (a b c : Bindings) → Grows a b → Grows b c → Grows a c
grows_then a b c e f = record {
  terms = goes_on_then a.terms.entries b.terms.entries c.terms.entries e.terms f.terms;
  types = goes_on_then a.types.entries b.types.entries c.types.entries e.types f.types;
}
