-- The kinds of a signature that goes with those before it are kinds, with their counts of arguments, where all is said.
use Rattle.std.proofs.Common.{◌≡◌, ℕ, ◌+◌, ◌<◌, ◌∙◌, List, [], ◌∷◌, ◌++◌, length, take, drop, get_or, sym, ap, subst, append_assoc}
use Rattle.std.proofs.lemmas.List.{take-append-drop}
use Rattle.lp_sig.specs.Rows.{Row}
use Rattle.lp_sig.specs.Said.{Said, a_kind}
use Rattle.lp_sig.specs.Modules.{of_each, said_of}
use Rattle.lp_sig.specs.Named.{MeansKinds}
use Rattle.lp_sig.specs.GoingTogether.{KindsGo, said_with}
use Rattle.lp_sig.specs.declared.entries.KindEntry.{KindEntry}
use Rattle.lp_sig.specs.declared.signature.Signature.{Signature}
use Rattle.lp_sig.proofs.Growing.{meaning_more}
use Rattle.lp_sig.proofs.Sayings.{each_append, signatures_more}

-- more that is said changes nothing
means_later : (said more : List (Row Said)) (es : List KindEntry) → MeansKinds said es → MeansKinds (said ++ more) es
means_later said more es h i d l = meaning_more said more (get_or es i d).name.items (a_kind (get_or es i d).arity) (h i d l)

pub means_at : (own : Signature) (used : List Signature) (more : List (Row Said)) (k : ℕ) (u : Signature) → k < length used → u ≡ get_or used k u → KindsGo (said_with ((own ∷ []) ++ take k used) u) u.kinds.items
    → MeansKinds ((said_of own ++ of_each said_of used) ++ more) u.kinds.items
means_at own used more k u l at go =
    let first : MeansKinds ((said_of own ++ of_each said_of (take k used)) ++ said_of u) u.kinds.items = λ i d h. (go i d h).0 in
    let then = subst (λ r. MeansKinds r u.kinds.items) (signatures_more said_of used k u (said_of own) l at) first in
    let rest = of_each said_of (drop (k + 1) used) in
    let whole : (said_of own ++ of_each said_of (take (k + 1) used)) ++ rest ≡ said_of own ++ of_each said_of used =
    append_assoc (said_of own) (of_each said_of (take (k + 1) used)) rest
    ∙ ap (λ r. said_of own ++ r) (sym (each_append said_of (take (k + 1) used) (drop (k + 1) used)) ∙ ap (of_each said_of) (take-append-drop (k + 1) used)) in
    means_later (said_of own ++ of_each said_of used) more u.kinds.items
    (subst (λ r. MeansKinds r u.kinds.items) whole (means_later (said_of own ++ of_each said_of (take (k + 1) used)) rest u.kinds.items then))
