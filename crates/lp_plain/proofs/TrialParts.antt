-- What is known of a try before its unification: the clause, its head's arguments, the goal's arguments.
use Rattle.std.proofs.Common.{◌≡◌, ℕ, suc, ◌+◌, ◌<◌, List, [], ◌∷◌, ◌++◌, map, length, refl, sym, ap, ◌∙◌, subst, arith, Bool, true, false, if◌then◌else◌, Option, None, Some}
use Rattle.std.specs.Prelude.{All, slice_get}
use Rattle.std.proofs.lemmas.List.Elements.{All-nil, All-cons, All-head, All-tail}
use Rattle.lp_calculus.specs.Term.{Term, Atom, index, atom, abs, app}
use Rattle.lp_calculus.specs.Fill.{Within}
use Rattle.lp_calculus.specs.Spine.{arguments_and, arguments}
use Rattle.lp_term.specs.Nodes.{Nodes, tree}
use Rattle.lp_term.specs.Spine.{LooseBelow}
use Rattle.lp_term.specs.declared.node.TermId.{TermId}
use Rattle.lp_model.specs.Pair.{Closing, closed}
use Rattle.lp_plain.specs.declared.candidates.Candidate.{Candidate}
use Rattle.lp_plain.specs.declared.head.HeadPair.{HeadPair}
use Rattle.lp_plain.specs.declared.instance.Values.{Values}
use Rattle.lp_plain.specs.declared.machine.Machine.{Machine}
use Rattle.lp_plain.specs.declared.table.Rule.{Rule}
use Rattle.lp_plain.specs.Attempted.{AreWrittenIn, IsClauseOf, with_first, with_types_to}
use Rattle.lp_plain.specs.Heads.{is_first, pair_in, pair_places, trees_of}
use Rattle.lp_plain.specs.Instances.{AreValues}
use Rattle.lp_plain.specs.Meeting.{AreReached}
use Rattle.lp_plain.specs.Trials.{IsAround, term_at, with_first_term}
use Rattle.lp_plain.specs.Written.{IsWritten, WrittenAtom}
use Rattle.lp_plain.proofs.OwnValues.{one_read}
use Rattle.lp_plain.proofs.TrialPairs.{AllLoose}

-- the clause

pub record IsSameTrial (m mid : Machine) (p : ℕ × Values) (rule : ℕ) (values : Values) : Type 0 where
  pub rule_is : p.0 ≡ rule
  pub values_are : p.1 ≡ values
  pub next_type : ℕ
  pub mid_is : mid ≡ with_types_to m next_type

pub same_trial : (m mid : Machine) (candidate : Candidate) (p : ℕ × Values) (rule n : ℕ) (values : Values) (r : Rule) → slice_get m.table.rules.items
    rule ≡ Some r → r.type_vars ≡ n → IsClauseOf m mid candidate p → IsAround m candidate rule n values → IsSameTrial m mid p rule values
same_trial m mid (Candidate.Assumed i) p rule n values r g t (a, h, e, f, w) (b, k, x, y) =
    let q = one_read m.assumptions.items i a b h k in
    record { rule_is = e ∙ ap (λ v. v.rule) q ∙ sym x; values_are = f ∙ ap (λ v. v.values) q ∙ sym y; next_type = m.branch.next_type; mid_is = w }
same_trial m mid (Candidate.Program i) p rule n values r g t (e, s, (x, h, c, f, w, fits)) (k, o, d, y) =
    let q = one_read m.table.rules.items i x r h (subst (λ j. slice_get m.table.rules.items j ≡ Some r) k g) in
    let count : p.1.types.count ≡ values.types.count = c ∙ ap (λ v. v.type_vars) q ∙ t ∙ sym d in
    record {
      rule_is = e ∙ sym k;
      values_are = (λ j. record { scope = (s ∙ sym o) j; types = record { count = count j; first = (f ∙ sym y) j } });
      next_type = m.branch.next_type + x.type_vars;
      mid_is = w;
    }

-- the arguments of its head

abbrev pub AllAre : (Term → Type 0) → List Term → Type 0
AllAre Q [] = Unit {0}
AllAre Q (t ∷ ts) = Q t × AllAre Q ts

pub arguments_written : (P : Atom → Type 0) (d : ℕ) (h : Term) (more : List Term) → Within P d h → AllAre (Within P d) more → AllAre (Within P d) (arguments_and h more)
arguments_written P d (index i) more w a = a
arguments_written P d (atom x) more w a = a
arguments_written P d (abs b) more w a = a
arguments_written P d (app f t) more w a = arguments_written P d f (t ∷ more) w.0 (w.1, a)

pub within_loose : (P : Atom → Type 0) (n e m : ℕ) (t : Term) → m ≡ e + n → Within P m t → LooseBelow n e t
within_loose P n e m (index i) q w = subst (λ k. i < k) q w
within_loose P n e m (atom a) q w = tt
within_loose P n e m (abs b) q w = within_loose P n (suc e) (suc m) b (omega (arith, q)) w
within_loose P n e m (app t u) q w = (within_loose P n e m t q w.0, within_loose P n e m u q w.1)

all_loose : (P : Atom → Type 0) (n : ℕ) (ts : List Term) → AllAre (Within P n) ts → AllLoose n ts
all_loose P n [] a = tt
all_loose P n (t ∷ ts) a = (within_loose P n 0 n t (omega arith) a.0, all_loose P n ts a.1)

pub arguments_loose : (ar : ℕ → ℕ) (k n : ℕ) (h : Term) → IsWritten ar k n h → AllLoose n (arguments h)
arguments_loose ar k n h w = all_loose (WrittenAtom ar k) n (arguments h) (arguments_written (WrittenAtom ar k) n h [] w tt)

abbrev AllPairs : (Term → Type 0) → List (ℕ × Term) → Type 0
AllPairs Q [] = Unit {0}
AllPairs Q (p ∷ ps) = Q p.1 × AllPairs Q ps

both_pairs : (Q : Term → Type 0) (ps qs : List (ℕ × Term)) → AllPairs Q ps → AllPairs Q qs → AllPairs Q (ps ++ qs)
both_pairs Q [] qs a b = b
both_pairs Q (p ∷ ps) qs a b = (a.0, both_pairs Q ps qs a.1 b)

places_are : (Q : Term → Type 0) (n p : ℕ) (es hs : List Term) → AllAre Q hs → AllPairs Q (pair_places n p es hs)
places_are Q n p es [] a = tt
places_are Q n p es (h ∷ hs) a = both_pairs Q (if is_first n h es then [] else (p, h) ∷ []) (pair_places n (suc p) (h ∷ es) hs) (one (is_first n h es)) (places_are Q n (suc p) (h ∷ es) hs a.1)
  where
    one : (b : Bool) → AllPairs Q (if b then [] else (p, h) ∷ [])
    one true = tt
    one false = (a.0, tt)

pairs_are : (b : Nodes) (ar : ℕ → ℕ) (k d : ℕ) (heads : List HeadPair) → All (λ p. p.term.0 < length b.terms) heads → AllPairs (IsWritten ar k d) (map (pair_in b) heads) → AreWrittenIn b ar k d heads
pairs_are b ar k d [] l a = All-nil (λ (p : HeadPair). (p.term.0 < length b.terms) × IsWritten ar k d (tree b p.term.0))
pairs_are b ar k d (h ∷ hs) l a =
    All-cons (λ (p : HeadPair). (p.term.0 < length b.terms) × IsWritten ar k d (tree b p.term.0)) h hs (All-head (λ (p : HeadPair). p.term.0 < length b.terms) h hs l, a.0)
    (pairs_are b ar k d hs (All-tail (λ (p : HeadPair). p.term.0 < length b.terms) h hs l) a.1)

pub heads_written : (b : Nodes) (ar : ℕ → ℕ) (k d n : ℕ) (h : Term) (heads : List HeadPair) → All (λ p. p.term.0 < length b.terms) heads → map
    (pair_in b) heads ≡ pair_places n 0 [] (arguments h) → IsWritten ar k d h → AreWrittenIn b ar k d heads
heads_written b ar k d n h heads l e w =
    pairs_are b ar k d heads l (subst (AllPairs (IsWritten ar k d)) (sym e) (places_are (IsWritten ar k d) n 0 [] (arguments h) (arguments_written (WrittenAtom ar k) d h [] w tt)))

-- the goal's arguments

arguments_shut : (h : Term) (more : List Term) → LooseBelow 0 0 h → AllLoose 0 more → AllLoose 0 (arguments_and h more)
arguments_shut (index i) more l a = a
arguments_shut (atom x) more l a = a
arguments_shut (abs b) more l a = a
arguments_shut (app f t) more l a = arguments_shut f (t ∷ more) l.0 (l.1, a)

values_are : (b : Nodes) (args : List TermId) → All (λ t. t.0 < length b.terms) args → AllLoose 0 (trees_of b args) → AreValues b args
values_are b [] l a = All-nil (λ (t : TermId). (t.0 < length b.terms) × LooseBelow 0 0 (tree b t.0))
values_are b (t ∷ ts) l a =
    All-cons (λ (t : TermId). (t.0 < length b.terms) × LooseBelow 0 0 (tree b t.0)) t ts (All-head (λ (t : TermId). t.0 < length b.terms) t ts l, a.0)
    (values_are b ts (All-tail (λ (t : TermId). t.0 < length b.terms) t ts l) a.1)

pub goal_values : (b : Nodes) (g : Term) (args : List TermId) → All (λ t. t.0 < length b.terms) args → trees_of b args ≡ arguments g → LooseBelow 0 0 g → AreValues b args
goal_values b g args l e s = values_are b args l (subst (AllLoose 0) (sym e) (arguments_shut g [] s tt))

-- with the first one as it was looked at

pub all_reached : (b : Nodes) (z : Closing) (ts : List TermId) → AreReached b z ts (map (closed z) (trees_of b ts))
all_reached b z [] = tt
all_reached b z (t ∷ ts) = ((0, refl), all_reached b z ts)

pub first_trees : (b : Nodes) (o : Option TermId) (args : List TermId) → trees_of b (with_first o args) ≡ with_first_term (term_at b o) (trees_of b args)
first_trees b None args = refl
first_trees b (Some u) [] = refl
first_trees b (Some u) (t ∷ ts) = refl

pub first_within : (b : Nodes) (o : Option TermId) (args : List TermId) → All (λ t. t.0 < length b.terms) args →
    ((u : TermId) → o ≡ Some u → u.0 < length b.terms) → All (λ t. t.0 < length b.terms) (with_first o args)
first_within b None args l h = l
first_within b (Some u) [] l h = All-nil (λ (t : TermId). t.0 < length b.terms)
first_within b (Some u) (t ∷ ts) l h = All-cons (λ (t : TermId). t.0 < length b.terms) u ts (h u refl) (All-tail (λ (t : TermId). t.0 < length b.terms) t ts l)
