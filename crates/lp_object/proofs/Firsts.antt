-- A type is the first one that its tops make.
use Rattle.std.proofs.Common.{◌≡◌, List, [], ◌∷◌, ◌++◌, Ok, Err, sym, ap, ◌∙◌}
use Rattle.lp_lemmas.proofs.Lists.{reverse_pushed}
use Rattle.lp_term.specs.declared.node.TypeId.{TypeId}
use Rattle.lp_term.specs.Nodes.{Nodes, type_tree}
use Rattle.lp_bytes.specs.declared.fault.Fault.TheVariants.{BadField}
use Rattle.lp_bytes.specs.Reading.{Left, ◌>>=◌}
use Rattle.lp_object.specs.Reading.{Scope, first_of, TypeTop, type_tops_at, types_made, type_at}
use Rattle.lp_object.specs.inner.Parts.{types_in, types_stacked}

pub first_type : (d : Scope) (s t : Left) (tops : List TypeTop) (b : Nodes) (stack rest : List TypeId) (made : TypeId) → type_tops_at d s ≡ Ok (tops, t) → stack ≡ rest ++ made ∷ [] → types_stacked b stack ≡ types_made tops → type_at d s ≡ Ok (type_tree b made.0, t)
unfolding type_at
first_type d s t tops b stack rest made e f h =
    ap (λ r. r >>= λ ts. first_of s.at (types_made ts.0) ts.1) e ∙ ap (λ ts. first_of s.at ts t) (sym h ∙ ap (types_in b) (reverse_pushed stack rest made f))

pub no_type : (d : Scope) (s t : Left) (tops : List TypeTop) (b : Nodes) (stack : List TypeId) → type_tops_at d s ≡ Ok (tops, t) → stack ≡ [] → types_stacked b stack ≡ types_made tops → type_at d s ≡ Err (BadField s.at)
unfolding type_at
no_type d s t tops b stack e f h =
    ap (λ r. r >>= λ ts. first_of s.at (types_made ts.0) ts.1) e ∙ ap (λ ts. first_of s.at ts t) (sym h ∙ ap (types_stacked b) f)
