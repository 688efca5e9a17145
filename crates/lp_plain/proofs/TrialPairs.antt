-- The pairs of a try: what the code makes of a head's arguments, with a scope of the clause's own variables, is what the definition makes of them.
use Rattle.std.proofs.Common.{◌≡◌, ℕ, zero, suc, ◌+◌, ◌-◌, ◌<◌, ◌≤◌, List, [], ◌∷◌, map, length, get_or, refl, sym, ap, ◌∙◌, subst, arith, if◌then◌else◌, Option, None, Some}
use Rattle.std.proofs.lemmas.Bool.{lt-ltb, le-ltb}
use Rattle.lp_calculus.specs.Types.{Ty}
use Rattle.lp_calculus.specs.Term.{Term, index, atom, logic}
use Rattle.lp_calculus.specs.Instance.{instance_term}
use Rattle.lp_term.specs.Nodes.{Nodes}
use Rattle.lp_term.specs.Spine.{LooseBelow}
use Rattle.lp_term.specs.declared.node.TermId.{TermId}
use Rattle.lp_model.specs.Flat.{under_all}
use Rattle.lp_model.specs.Index.{lifted, instantiate}
use Rattle.lp_model.specs.Pair.{Closing, closed}
use Rattle.lp_model.specs.Search.{pairs_of, slots_of, slotted}
use Rattle.lp_pattern.specs.Turning.{IsOpenReading}
use Rattle.lp_pattern.specs.Under.{ValueIs}
use Rattle.lp_pattern.specs.declared.bindings.Bindings.{Bindings}
use Rattle.lp_plain.specs.Attempted.{becomes, before, own_values}
use Rattle.lp_plain.specs.Entries.{AreAt}
use Rattle.lp_plain.specs.Heads.{HaveBecome, pair_places, slot_place, slot_term, trees_of}
use Rattle.lp_plain.specs.Instances.{values_of}
use Rattle.lp_plain.specs.Meeting.{met_pairs}
use Rattle.lp_plain.specs.Renewal.{renewing}
use Rattle.lp_plain.specs.Trials.{read_in}
use Rattle.lp_plain.specs.declared.types.Renewal.{Renewal}
use Rattle.lp_plain.proofs.Become.{AreClosed, arguments_become, by_size, own_kept}
use Rattle.lp_plain.proofs.Closings.{both_under, closed_loose, closed_stays, typed_loose}
use Rattle.lp_plain.proofs.HeadsJoined.{slots_joined}
use Rattle.lp_plain.proofs.Tried.{pairs_tried}

-- a new variable reads as itself
pub new_read : (b : Nodes) (s : Bindings) (next : ℕ) (z : Closing) → IsOpenReading b s next z → (x : ℕ) → next ≤ x → (l : ℕ) → z.terms x l ≡ atom (logic x l)
new_read b s next z r x m = subst (ValueIs b z x) (r.unbound x m) (r.reading.terms x)

argument_read : (z : Closing) (d : Term) → closed z d ≡ d → (ts : List Term) (p : ℕ) → closed z (get_or ts p d) ≡ get_or (map (closed z) ts) p d
argument_read z d e [] p = e
argument_read z d e (t ∷ ts) zero = refl
argument_read z d e (t ∷ ts) (suc p) = argument_read z d e ts p

slot_read : (z : Closing) (next level k : ℕ) → z.terms (next + k) level ≡ atom (logic (next + k) level) → (ts : List Term) (o : Option ℕ) → closed z
    (slot_term ts next level k o) ≡ slot_term (map (closed z) ts) next level k o
slot_read z next level k e ts None = e
slot_read z next level k e ts (Some p) = argument_read z (atom (logic (next + k) level)) e ts p

pub at_read : (b : Nodes) (ws : List TermId) (σ : ℕ → Term) → AreAt b ws σ → (i : ℕ) → i < length ws → values_of b ws i ≡ σ i
at_read b [] σ a i l = absurd (omega (arith, l))
at_read b (w ∷ ws) σ a zero l = a zero w refl
at_read b (w ∷ ws) σ a (suc i) l = at_read b ws (λ j. σ (suc j)) (λ j v e. a (suc j) v e) i (omega (arith, l))

element : (f : Term → Term) (d e : Term) (ts : List Term) (i : ℕ) → i < length ts → get_or (map f ts) i d ≡ f (get_or ts i e)
element f d e [] i l = absurd (omega (arith, l))
element f d e (t ∷ ts) zero l = refl
element f d e (t ∷ ts) (suc i) l = element f d e ts i (omega (arith, l))

abbrev pub AllLoose : ℕ → List Term → Type 0
AllLoose n [] = Unit {0}
AllLoose n (t ∷ ts) = LooseBelow n 0 t × AllLoose n ts

loose_at : (n : ℕ) (ts : List Term) (i : ℕ) → i < length ts → AllLoose n ts → LooseBelow n 0 (get_or ts i (index 0))
loose_at n [] i l a = absurd (omega (arith, l))
loose_at n (t ∷ ts) zero l a = a.0
loose_at n (t ∷ ts) (suc i) l a = loose_at n ts i (omega (arith, l)) a.1

-- a clause with variables of these types, on a goal with these arguments
module _ (b d : Nodes) (s : Bindings) (z : Closing) (next level : ℕ) (r : IsOpenReading b s next z) (vs : List Ty) (hs : List Term) (σ : ℕ → Term)
    (c : AreClosed σ) (types : Renewal) (args : List TermId) (slots : List (Option ℕ)) (ws outer : List TermId)
    (slots_are : (k : ℕ) → k < length vs → get_or slots k None ≡ slot_place k 0 [] hs)
    (a : AreAt d ws (before (length vs) (own_values b args next level slots) σ)) (count : length ws ≡ length vs + length outer)
    (loose : AllLoose (length vs + length outer) hs) where
  abbrev read : Term → Term
  read = read_in z (under_all lifted vs σ) (renewing types)

  abbrev goals : List Term
  goals = map (closed z) (trees_of b args)

  abbrev own : ℕ → Term
  own = slotted (slots_of [] (map read hs) goals) next level

  become : HaveBecome (length vs) hs (map read hs)
  become = arguments_become z r.shut (renewing types) σ c vs hs

  own_read : (k : ℕ) → k < length vs → own k ≡ closed z (own_values b args next level slots k)
  own_read k l =
      slots_joined (length vs) k next level 0 [] [] hs (map read hs) [] goals l tt become refl ∙ ap (slot_term goals next level k) (sym (slots_are k l)) ∙
      sym (slot_read z next level k (new_read b s next z r (next + k) (omega arith) level) (trees_of b args) (get_or slots k None))

  pub value_read : (i : ℕ) → i < length vs + length outer → instantiate own (closed z (under_all lifted vs σ i)) ≡ closed z (values_of d ws i)
  value_read i l =
      let k = own_kept vs σ c in
      let w : values_of d ws i ≡ before (length vs) (own_values b args next level slots) σ i = at_read d ws (before (length vs) (own_values b args next level slots) σ) a i (omega (arith, l, count)) in
      by_size i (length vs) (instantiate own (closed z (under_all lifted vs σ i)) ≡ closed z (values_of d ws i))
      (λ h. ap (λ t. instantiate own (closed z t)) (k.own i h) ∙ own_read i h ∙
      ap (closed z) (sym (w ∙ ap (λ t. if t then own_values b args next level slots i else σ (i - length vs)) (lt-ltb i (length vs) h))))
      (λ h. ap (λ t. instantiate own (closed z t)) (k.around i h) ∙ closed_stays own (closed z (σ (i - length vs))) (closed_loose z r.shut 0 0 (σ (i - length vs)) (c (i - length vs))) ∙
      ap (closed z) (sym (w ∙ ap (λ t. if t then own_values b args next level slots i else σ (i - length vs)) (le-ltb i (length vs) h))))

  argument_is : (i : ℕ) → i < length hs → instantiate own (get_or (map read hs) i (index 0)) ≡ closed z (becomes d ws types (get_or hs i (index 0)))
  argument_is i l =
      let t = get_or hs i (index 0) in
      ap (instantiate own) (element read (index 0) (index 0) hs i l) ∙
      both_under z r.shut (length vs + length outer) (under_all lifted vs σ) (values_of d ws) own value_read (instance_term (renewing types) t)
      (typed_loose (renewing types) (length vs + length outer) 0 t (loose_at (length vs + length outer) hs i l loose))

  pub trial_pairs : pairs_of own level [] (map read hs) goals ≡ met_pairs z (becomes d ws types) level goals (pair_places (length vs) 0 [] hs)
  trial_pairs = pairs_tried z (becomes d ws types) own level (length vs) hs (map read hs) goals become argument_is
