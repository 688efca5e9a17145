-- Moves that bind nothing, and alternatives that are put with the bindings of then.
use Rattle.std.proofs.Common.{◌≡◌, length, sym, ap, ◌∙◌, subst}
use Rattle.lp_plain.specs.declared.choice.Untried.{Untried}
use Rattle.lp_plain.specs.declared.machine.Machine.{Machine}
use Rattle.lp_plain.specs.Apart.{apart}
use Rattle.lp_plain.specs.Entries.{HasAlternative, KeepsGoals}
use Rattle.lp_plain.specs.Keeping.{KeepsCourse}
use Rattle.lp_plain.specs.Moving.{BindsNone, IsPutWith, PutsWith}
use Rattle.lp_plain.proofs.Marked.{none_pushed}

pub none_then : (m n o : Machine) → BindsNone m n → BindsNone n o → BindsNone m o
none_then m n o b d = record { bindings = d.bindings ∙ b.bindings; pairs = d.pairs ∙ b.pairs }

pub none_kept : (m n : Machine) → KeepsGoals m n → KeepsCourse m n → BindsNone m n
none_kept m n k c = record { bindings = k.known.bindings; pairs = ap (λ b. b.pairs) c.branch }

pub none_apart : (m c n : Machine) → c ≡ apart m → BindsNone c n → BindsNone m n
none_apart m c n e b = let h : BindsNone (apart m) n = subst (λ z. BindsNone z n) e b in record { bindings = h.bindings; pairs = h.pairs }

pub with_apart : (m c n : Machine) → c ≡ apart m → PutsWith c n → PutsWith m n
with_apart m c n e w =
    let h : PutsWith (apart m) n = subst (λ z. PutsWith z n) e w in
    λ k q. let x = h k q in record { terms = x.terms; types = x.types; pairs = x.pairs }

-- no alternative came
pub none_with : (m n : Machine) → n.choices.items ≡ m.choices.items → PutsWith m n
none_with m n e c q = absurd (none_pushed m.choices.items c (sym e ∙ q))

-- one that came
pub put_with : (m n o : Machine) (u : Untried) (h : HasAlternative n o u) → BindsNone m n → IsPutWith m h.choice
put_with m n o u h b = record {
  terms = h.bound_terms ∙ ap (λ z. length z.terms.entries) b.bindings;
  types = h.bound_types ∙ ap (λ z. length z.types.entries) b.bindings;
  pairs = h.pairs ∙ ap (λ z. z.items) b.pairs;
}
