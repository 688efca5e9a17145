-- The laws of the rules for one pair, in the words of lp_model.
use Rattle.std.proofs.Common.{◌≡◌, ℕ, List, [], length, ◌∙◌, refl, ap, suc, subst as transport, true, false, nat_eq, Some, None}
use Rattle.std.specs.Prelude.{option_map, ◌&&◌}
use Rattle.lp_calculus.proofs.Steps.{converts_on, converts_is}
use mathlib.Core.Path.{fun_ext}
use Rattle.lp_calculus.specs.Types.{Ty}
use Rattle.lp_calculus.specs.Term.{Term, Atom, index, atom, abs, app, constant, integer, text, eigen, logic, param}
use Rattle.lp_calculus.specs.Fill.{Within, Binding}
use Rattle.lp_calculus.specs.Instance.{instance_atom, instance_term}
use Rattle.lp_model.specs.Look.{rigid, look}
use Rattle.lp_model.specs.Pair.{Pair, Closing, Solves}
use Rattle.lp_model.specs.Rule.{type_pairs, with_types, ruled, opened, decompose, Verdict, fails, gives, binds, delays, Ruled, rule}
use Rattle.lp_model.specs.Types.{TypeBinding, TypeOutcome, none, solved, solve_types}
use Rattle.lp_model.specs.Same.{same_name}
use Rattle.lp_model.specs.Proofs.{Declared}
use Rattle.lp_model.specs.Answers.{Variable, PairTyping, IsTypedPair}
use Rattle.lp_unify_laws.specs.Levels.{IsPair, IsPairAtom, IsClosing, SolvedBy}
use Rattle.lp_unify_laws.specs.Right.{Keeps}
use Rattle.lp_unify_laws.specs.Solutions.{instance_pair, IsTypedClosing, GivesSame, ComesThrough, IsRightFor, IsPlainlyRightFor}
use Rattle.lp_unify_laws.proofs.Looks.{look_reduces}
use Rattle.lp_unify_laws.proofs.Firm.{look_firm}
use Rattle.lp_unify_laws.proofs.Plainly.{opened_right}
use Rattle.lp_unify_laws.proofs.Scopes.{got_before}
use Rattle.lp_unify_laws.proofs.Rules.{IsBinding, binding_keeps, map_ruled}
use Rattle.lp_unify_laws.proofs.RuleAt.{IsGivenAt, IsRightAt, decomposed_at, rule_at}
use Rattle.lp_unify_laws.proofs.Instances.{instance_look, look_instance}
use Rattle.lp_unify_laws.proofs.PairLists.{left_term, right_term}
use Rattle.lp_unify_laws.proofs.Runs.{bindings_at}
use Rattle.lp_unify_laws.proofs.Laws.{solved_by, by_solved, gives_through}

-- types put in a pair leave it a pair
atom_instance : (next n : ℕ) (θ : ℕ → Ty) (a : Atom) → IsPairAtom next n a → IsPairAtom next n (instance_atom θ a)
atom_instance next n θ (constant c us) h = tt
atom_instance next n θ (integer z) h = tt
atom_instance next n θ (text s) h = tt
atom_instance next n θ (eigen k) h = h
atom_instance next n θ (logic x l) h = h
atom_instance next n θ (param k u) h = tt

term_instance : (next n : ℕ) (θ : ℕ → Ty) (d : ℕ) (t : Term) → Within (IsPairAtom next n) d t → Within (IsPairAtom next n) d (instance_term θ t)
term_instance next n θ d (index i) h = h
term_instance next n θ d (atom a) h = atom_instance next n θ a h
term_instance next n θ d (abs b) h = term_instance next n θ (suc d) b h
term_instance next n θ d (app t u) h = (term_instance next n θ d t h.0, term_instance next n θ d u h.1)

pair_instance : (next : ℕ) (θ : ℕ → Ty) (p : Pair) → IsPair next p → IsPair next (instance_pair θ p)
pair_instance next θ p h = (term_instance next p.level θ 0 p.left h.0, term_instance next p.level θ 0 p.right h.1)

pub opened_pairs_are_the_same : (next : ℕ) (p : Pair) → IsPair next p → (c : Closing) → IsClosing c.terms → (Solves c p → Solves c (opened p)) × (Solves c (opened p) → Solves c p)
opened_pairs_are_the_same next p w c l =
    let g = opened_right next (instance_pair c.types p) (pair_instance next c.types p w) in
    ((λ s. (g.keeps c.terms l s).0), (λ s. g.solves c.terms l (s, tt)))

given_same : (d : Declared) (V : List Variable) (c : Closing) (p : Pair) (ts : List TypeBinding) (ps : List Pair) → IsClosing c.terms → IsGivenAt c.types d V p ts ps → GivesSame c p ts ps
given_same d V c p ts ps l h = record {
  keeps = λ s. let k = h.keeps c.terms l s in (k.0, by_solved c ps k.1);
  solves = λ m s. h.solves c.terms l m (solved_by c ps s);
}

-- taking apart gives pairs or fails
abbrev IsPlain : Verdict → Type 0
IsPlain fails = Unit {0}
IsPlain (gives ts ps) = Unit {0}
IsPlain (binds bs next) = ⊥
IsPlain delays = ⊥

types_plain : (n : ℕ) (ts us : List Term) (o : TypeOutcome) → IsPlain (with_types n ts us o).verdict
types_plain n ts us (none u) = tt
types_plain n ts us (solved made u) = tt

decompose_plain : (n l : ℕ) (h g : Term) (ts us : List Term) (r : Ruled) → decompose n l h ts g us ≡ Some r → IsPlain r.verdict
decompose_plain n l h g ts us r e = elim (same_name h g && nat_eq (length ts) (length us)) as (λ b. (elim b [
  | true ↦ option_map (with_types l ts us) (solve_types n (type_pairs h g) [] 0)
  | false ↦ Some (ruled 0 fails)
]) ≡ Some r → IsPlain r.verdict) [
  | true ↦ λ q. let m = map_ruled (with_types l ts us) (solve_types n (type_pairs h g) [] 0) r q in transport (λ x. IsPlain x.verdict) m.2 (types_plain l ts us m.0)
  | false ↦ λ q. let x : ruled 0 fails ≡ r = cc in transport (λ y. IsPlain y.verdict) x tt
] e

plainly : (c : Closing) (p : Pair) (v : Verdict) → IsClosing c.terms → IsPlain v → IsRightAt c.types (λ k. None) [] 0 p v → IsPlainlyRightFor c p v
plainly c p fails l i h = h c.terms l (λ x v e. absurd (cc))
plainly c p (gives ts ps) l i h = given_same (λ k. None) [] c p ts ps l h
plainly c p (binds bs next) l i h = i
plainly c p delays l i h = i

-- the rule of rigid heads needs no types of variables
no_next : (θ : ℕ → Ty) (next : ℕ) (p : Pair) (v : Verdict) → IsPlain v → IsRightAt θ (λ k. None) [] next p v → IsRightAt θ (λ k. None) [] 0 p v
no_next θ next p fails i h = h
no_next θ next p (gives ts ps) i h = h
no_next θ next p (binds bs n) i h = absurd i
no_next θ next p delays i h = tt

pub rigid_heads : (n m next : ℕ) (p : Pair) (h g : Term) (ts us : List Term) (r : Ruled) → IsPair next p → look n p.left ≡ Some (rigid h ts) → look n p.right ≡ Some (rigid g us) → decompose m p.level h ts g us ≡ Some r → (c : Closing) → IsClosing c.terms → IsPlainlyRightFor c p r.verdict
rigid_heads n m next p h g ts us r w a b e c l =
    let θ = c.types in
    let iv : look n (instance_term θ p.left) ≡ Some (instance_look θ (rigid h ts)) = look_instance θ n p.left ∙ ap (option_map (instance_look θ)) a in
    let iw : look n (instance_term θ p.right) ≡ Some (instance_look θ (rigid g us)) = look_instance θ n p.right ∙ ap (option_map (instance_look θ)) b in
    let k = decompose_plain m p.level h g ts us r e in
    plainly c p r.verdict l k (no_next θ next p r.verdict k (decomposed_at θ (λ k. None) [] m next p h g ts us r (pair_instance next θ p w)
    (look_firm n p.left (rigid h ts) a) (look_firm n p.right (rigid g us) b) (look_reduces n (instance_term θ p.left) (instance_look θ (rigid h ts)) iv) (look_reduces n (instance_term θ p.right) (instance_look θ (rigid g us)) iw) e))

-- each rule
comes_through : (d : Declared) (V : List Variable) (c : Closing) (p : Pair) (bs : List Binding) (next : ℕ) →
    (i : IsBinding d V (length V) (instance_pair c.types p) (bindings_at c.types bs) next) → Keeps (IsTypedClosing d i.after) (length V)
    (bindings_at c.types bs) c.terms → ComesThrough d V c bs next
comes_through d V c p bs next i k = record {
  after = i.after;
  more = i.more;
  count = i.count;
  bindings = i.typed;
  closing = record { types = c.types; terms = k.closing };
  types = refl;
  levels = k.is_closing;
  typed = k.is_good;
  gives = λ x v q. converts_on (k.gives x (length v.scope) (got_before V x v q)) (converts_is (gives_through c.types k.closing bs x (length v.scope)));
}

right_for : (d : Declared) (V : List Variable) (c : Closing) (p : Pair) (v : Verdict) → IsClosing c.terms → IsRightAt c.types d V (length V) p v → IsRightFor d V c p v
right_for d V c p fails l h = λ g s. h c.terms l g s
right_for d V c p (gives ts ps) l h = given_same d V c p ts ps l h
right_for d V c p (binds bs next) l h = (
  (λ g s. comes_through d V c p bs next h (binding_keeps d V (length V) (instance_pair c.types p) (bindings_at c.types bs) next h c.terms l g s)),
  transport (λ τ. SolvedBy τ (instance_pair c.types p)) (fun_ext (λ x. fun_ext (λ k. gives_through c.types c.terms bs x k))) (h.solves c.terms l),
)
right_for d V c p delays l h = tt

pub rules_keep_and_add_no_solution : (d : Declared) (V : List Variable) (n : ℕ) (p : Pair) (q : PairTyping) (r : Ruled) (c : Closing) → IsTypedPair d V q (instance_pair c.types p) → rule n (length V) p ≡ Some r → IsClosing c.terms → IsRightFor d V c p r.verdict
rules_keep_and_add_no_solution d V n p q r c i e l =
    right_for d V c p r.verdict l (rule_at c.types d q.eigens V q.type n (length V) p r
    (record { count = refl; level = i.level; left = left_term d V q (instance_pair c.types p) i; right = right_term d V q (instance_pair c.types p) i }) e)
