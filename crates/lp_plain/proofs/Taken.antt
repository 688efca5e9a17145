-- A goal that is taken apart once it was counted.
use Rattle.std.proofs.Common.{◌≡◌, ℕ, List, Option, subst}
use Rattle.lp_calculus.specs.Term.{Term}
use Rattle.lp_standard.specs.Connectives.{Connective, And, Or}
use Rattle.lp_term.specs.Nodes.{Nodes, tree}
use Rattle.lp_term.specs.declared.node.TermId.{TermId}
use Rattle.lp_model.specs.Branch.{Branch}
use Rattle.lp_model.specs.Flat.{Goal, Goals, Clause, Either}
use Rattle.lp_model.specs.Search.{look_goal, look_form}
use Rattle.lp_plain.specs.declared.frame.Place.{Place}
use Rattle.lp_plain.specs.declared.machine.Machine.{Machine}
use Rattle.lp_plain.specs.Apart.{apart}
use Rattle.lp_plain.specs.Entries.{Around, ArePartsOf, IsBehind, IsOf, entry_at, in_scope}

abbrev pub TakesEither : (old new : Machine) → Place → (left right : ℕ) → (behind : Option ℕ) → Type 0
TakesEither m n p l r o = (a : Around) (hs ks : Goals) (σ : ℕ → Term) (b : Branch) → IsOf m p l hs σ → IsOf m p r ks σ → IsBehind m a o b → (u k height : ℕ) (P : List Clause) →
    let g : Goal = Either (in_scope σ p.values.types hs) (in_scope σ p.values.types ks) in ArePartsOf m n a (look_goal u k P height (entry_at a p g) b g)

pub either_apart : (m c n : Machine) (p : Place) (l r : ℕ) (o : Option ℕ) → c ≡ apart m → TakesEither c n p l r o → TakesEither m n p l r o
either_apart m c n p l r o e t = λ a hs ks σ b x y w u k height P.
    let s : TakesEither (apart m) n p l r o = subst (λ z. TakesEither z n p l r o) e t in
    s a hs ks σ b x y (record { goals = w.goals; next = w.next; next_type = w.next_type }) u k height P

abbrev pub TakesForm : (old new : Machine) → Place → (Nodes → Connective) → (behind : Option ℕ) → Type 0
TakesForm m n p f o = (a : Around) (b : Branch) → IsBehind m a o b → (u k height : ℕ) (P : List Clause) (t : Term) (g : Goal) → ArePartsOf m n a (look_form u k P height (entry_at a p g) b t (f m.bank))

-- so of a term of these two sides
pub and_apart : (m c n : Machine) (p : Place) (l r : TermId) (o : Option ℕ) → c ≡ apart m → TakesForm c n p (λ b. And (tree b l.0) (tree b r.0)) o → TakesForm m n p (λ b. And (tree b l.0) (tree b r.0)) o
and_apart m c n p l r o e t = λ a b w u k height P v g.
    let s : TakesForm (apart m) n p (λ b. And (tree b l.0) (tree b r.0)) o = subst (λ z. TakesForm z n p (λ b. And (tree b l.0) (tree b r.0)) o) e t in
    s a b (record { goals = w.goals; next = w.next; next_type = w.next_type }) u k height P v g

pub or_apart : (m c n : Machine) (p : Place) (l r : TermId) (o : Option ℕ) → c ≡ apart m → TakesForm c n p (λ b. Or (tree b l.0) (tree b r.0)) o → TakesForm m n p (λ b. Or (tree b l.0) (tree b r.0)) o
or_apart m c n p l r o e t = λ a b w u k height P v g.
    let s : TakesForm (apart m) n p (λ b. Or (tree b l.0) (tree b r.0)) o = subst (λ z. TakesForm z n p (λ b. Or (tree b l.0) (tree b r.0)) o) e t in
    s a b (record { goals = w.goals; next = w.next; next_type = w.next_type }) u k height P v g
