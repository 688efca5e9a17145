-- A look at a term that weighs something comes, and so does the test for a pattern; what is seen weighs less than the term.
use Rattle.std.proofs.Common.{◌≡◌, ℕ, zero, suc, ◌+◌, ◌≤◌, List, [], ◌∷◌, ◌∙◌, refl, ap, arith, Option, Some, None}
use Rattle.std.specs.Prelude.{option_map}
use Rattle.lp_calculus.specs.Term.{Term, Atom, index, atom, abs, app, constant, integer, text, eigen, logic, param}
use Rattle.lp_calculus.specs.Convert.{head_step, leftmost_step}
use Rattle.lp_calculus.specs.Normal.{eta_normal}
use Rattle.lp_model.specs.Eigens.{beta_normal, as_eigen, eigen_of}
use Rattle.lp_model.specs.Look.{Look, an_abs, rigid, flexible, looked, head_normal, look, as_eigens, pattern_of}
use Rattle.lp_unify_laws.proofs.NormalForms.Ends.{Ends, rests as comes_to_rest, goes as goes_on, none_mapped}
use Rattle.lp_unify_laws.proofs.NormalForms.Applied.{IsNeutral}
use Rattle.lp_unify_laws.proofs.NormalForms.Opened.{first_step}
use Rattle.lp_unify_laws.proofs.NormalForms.Headed.{head_ends, head_is_leftmost}
use Rattle.lp_unify_laws.proofs.NormalForms.Weights.{Weighs, goes, weighs_ends, weighs_headed, abs_weighs, app_weighs, opened_abs}
use Rattle.lp_unify_laws.proofs.MoreSteps.Scans.{below_same, below_map, as_eigen_more, as_eigens_more}
use Rattle.lp_unify_laws.proofs.Termination.Comes.{Comes, Grows, comes_at_once, comes_map, comes_then}

-- the arguments of a head, one node each besides what they weigh
abbrev pub AllWeigh : List Term → ℕ → Type 0
AllWeigh [] w = Unit {0}
AllWeigh (t ∷ ts) w = (v : ℕ) × (u : ℕ) × ((suc (v + u) ≤ w) × (Weighs t v × AllWeigh ts u))

abbrev pub LookWeighs : Look → ℕ → Type 0
LookWeighs (an_abs b) w = (v : ℕ) × ((w ≡ suc (suc v)) × Weighs b v)
LookWeighs (rigid h ts) w = AllWeigh ts w
LookWeighs (flexible x l ts) w = AllWeigh ts w

pub all_weigh_more : (ts : List Term) (w v : ℕ) → w ≤ v → AllWeigh ts w → AllWeigh ts v
all_weigh_more [] w v h k = tt
all_weigh_more (t ∷ ts) w v h k = let e = k.2.0 in (k.0, k.1, (omega arith, k.2.1))

-- the head-normal form
pub record HasHead (t : Term) (w : ℕ) : Type 0 where
  pub steps : ℕ
  pub form : Term
  pub is : head_normal steps t ≡ Some form
  pub normal : head_step form ≡ None
  pub weighs_so : Weighs form w

has_head : {t : Term} → Ends head_step t → (w : ℕ) → Weighs t w → HasHead t w
has_head (comes_to_rest {t = t} e) w k = record { steps = 1; form = t; is = ap (λ o. elim o as (λ x. Option Term) [ None ↦ Some t | Some x ↦ head_normal 0 x ]) e; normal = e; weighs_so = k }
has_head (goes_on {t = t} {s = s} e more) w k =
    let r = has_head more w (weighs_headed e k) in
    record { steps = suc r.steps; form = r.form; is = ap (λ o. elim o as (λ x. Option Term) [ None ↦ Some t | Some x ↦ head_normal r.steps x ]) e ∙ r.is; normal = r.normal; weighs_so = r.weighs_so }

pub head_comes : {t : Term} {w : ℕ} → Weighs t w → HasHead t w
head_comes {t} {w} h = has_head (head_ends (weighs_ends h)) w h

neutral_head : (f u : Term) → head_step (app f u) ≡ None → IsNeutral f
neutral_head (index i) u e = tt
neutral_head (atom a) u e = tt
neutral_head (abs b) u e = absurd (cc)
neutral_head (app g v) u e = neutral_head g v (none_mapped (λ s. app s u) (head_step (app g v)) e)

neutral_parts : (t : Term) → IsNeutral t → (w : ℕ) → Weighs t w → (ts : List Term) (u n : ℕ) → AllWeigh ts u → w + u ≤ n → LookWeighs (looked t ts) n
neutral_parts (index i) h w k ts u n a l = all_weigh_more ts u n (omega arith) a
neutral_parts (atom (constant c us)) h w k ts u n a l = all_weigh_more ts u n (omega arith) a
neutral_parts (atom (integer z)) h w k ts u n a l = all_weigh_more ts u n (omega arith) a
neutral_parts (atom (text s)) h w k ts u n a l = all_weigh_more ts u n (omega arith) a
neutral_parts (atom (eigen j)) h w k ts u n a l = all_weigh_more ts u n (omega arith) a
neutral_parts (atom (logic x j)) h w k ts u n a l = all_weigh_more ts u n (omega arith) a
neutral_parts (atom (param j s)) h w k ts u n a l = all_weigh_more ts u n (omega arith) a
neutral_parts (abs b) h w k ts u n a l = absurd h
neutral_parts (app f v) h w k ts u n a l =
    let p = app_weighs k f v h refl in let e = p.sum in
    neutral_parts f h p.head p.head_weighs (v ∷ ts) (suc (p.argument + u)) n (p.argument, u, (omega arith, (p.argument_weighs, a))) (omega arith)

parts_weigh : (t : Term) → head_step t ≡ None → (w : ℕ) → Weighs t w → LookWeighs (looked t []) w
parts_weigh (index i) e w k = tt
parts_weigh (atom a) e w k = neutral_parts (atom a) tt w k [] 0 w tt (omega arith)
parts_weigh (abs b) e w k = abs_weighs k b refl
parts_weigh (app f u) e w k = neutral_parts (app f u) (neutral_head f u e) w k [] 0 w tt (omega arith)

-- what is seen in a look
pub record Sees (t : Term) (w : ℕ) : Type 0 where
  pub steps : ℕ
  pub view : Look
  pub is : look steps t ≡ Some view
  pub parts : LookWeighs view w

pub look_comes : {t : Term} {w : ℕ} → Weighs t w → Sees t w
look_comes {t} {w} h = let r = head_comes h in record { steps = r.steps; view = looked r.form []; is = ap (option_map (λ s. looked s [])) r.is; parts = parts_weigh r.form r.normal w r.weighs_so }

-- where an abstraction is seen the term on an atom weighs two less
on_arguments : (t u : Term) (ts : List Term) (b : Term) → looked t (u ∷ ts) ≡ an_abs b → ⊥
on_arguments (index i) u ts b e = absurd (cc)
on_arguments (atom (constant c us)) u ts b e = absurd (cc)
on_arguments (atom (integer z)) u ts b e = absurd (cc)
on_arguments (atom (text s)) u ts b e = absurd (cc)
on_arguments (atom (eigen j)) u ts b e = absurd (cc)
on_arguments (atom (logic x j)) u ts b e = absurd (cc)
on_arguments (atom (param j s)) u ts b e = absurd (cc)
on_arguments (abs c) u ts b e = absurd (cc)
on_arguments (app f v) u ts b e = on_arguments f v (u ∷ ts) b e

some_look : (o : Option Term) (v : Look) → option_map (λ s. looked s []) o ≡ Some v → (s : Term) × ((o ≡ Some s) × (looked s [] ≡ v))
some_look None v e = absurd (cc)
some_look (Some s) v e = (s, (refl, cc))

OpensTo : Term → Atom → ℕ → Type 0
OpensTo t a w = (v : ℕ) × ((w ≡ suc (suc v)) × Weighs (app t (atom a)) v)

atom_no_abs : (a : Atom) (b : Term) → looked (atom a) [] ≡ an_abs b → ⊥
atom_no_abs (constant c us) b e = absurd (cc)
atom_no_abs (integer z) b e = absurd (cc)
atom_no_abs (text s) b e = absurd (cc)
atom_no_abs (eigen j) b e = absurd (cc)
atom_no_abs (logic x j) b e = absurd (cc)
atom_no_abs (param j s) b e = absurd (cc)

head_opens : (a : Atom) (n : ℕ) (t s b : Term) (w : ℕ) → Weighs t w → head_normal n t ≡ Some s → looked s [] ≡ an_abs b → OpensTo t a w
unfolding OpensTo
head_opens a zero t s b w k e i = absurd (cc)
head_opens a (suc n) (index j) s b w k e i = let q : index j ≡ s = cc in let f : rigid (index j) [] ≡ an_abs b = ap (λ z. looked z []) q ∙ i in absurd (cc)
head_opens a (suc n) (atom c) s b w k e i = let q : atom c ≡ s = cc in absurd (atom_no_abs c b (ap (λ z. looked z []) q ∙ i))
head_opens a (suc n) (abs c) s b w k e i = opened_abs a c k
head_opens a (suc n) (app f u) s b w k e i = go (head_step (app f u)) refl e (λ x h. head_opens a n x s b w h)
  where
    go : (o : Option Term) → head_step (app f u) ≡ o → (elim o as (λ x. Option Term) [ None ↦ Some (app f u) | Some x ↦ head_normal n x ]) ≡ Some s → ((x : Term) → Weighs x w → head_normal n x ≡ Some s → looked s [] ≡ an_abs b → OpensTo x a w) → OpensTo (app f u) a w
    go None p q ι = let z : app f u ≡ s = cc in absurd (on_arguments f u [] b (ap (λ z. looked z []) z ∙ i))
    go (Some x) p q ι =
        let r = ι x (weighs_headed p k) q i in
        (r.0, (r.1.0, goes (first_step f u a (Some x) (head_is_leftmost (app f u) x p)) r.1.1))

pub look_opens : (a : Atom) (n : ℕ) (t b : Term) (w : ℕ) → Weighs t w → look n t ≡ Some (an_abs b) → (v : ℕ) × ((w ≡ suc (suc v)) × Weighs (app t (atom a)) v)
unfolding OpensTo
look_opens a n t b w k e = let r = some_look (head_normal n t) (an_abs b) e in head_opens a n t r.0 b w k r.1.0 r.1.1

-- patterns
beta_comes : {t : Term} → Ends leftmost_step t → Comes (λ n. beta_normal n t)
beta_comes (comes_to_rest {t = t} e) = (1, t, ap (λ o. elim o as (λ x. Option Term) [ None ↦ Some t | Some x ↦ beta_normal 0 x ]) e)
beta_comes (goes_on {t = t} e more) = let r = beta_comes more in (suc r.0, r.1, ap (λ o. elim o as (λ x. Option Term) [ None ↦ Some t | Some x ↦ beta_normal r.0 x ]) e ∙ r.2)

pub normal_comes : {t : Term} {w : ℕ} → Weighs t w → Comes (λ n. beta_normal n t)
normal_comes h = beta_comes (weighs_ends h)

pub eigen_comes : {t : Term} {w : ℕ} → Weighs t w → Comes (λ n. as_eigen n t)
eigen_comes {t} h = comes_map (λ n. beta_normal n t) (λ s. eigen_of (eta_normal s)) (normal_comes h)

abbrev pub behind : List Term → ℕ → Option ℕ → Option (Option (List ℕ))
behind ts n o = elim o [ None ↦ Some None | Some k ↦ option_map (option_map (λ ks. k ∷ ks)) (as_eigens n ts) ]

behind_grows : (ts : List Term) (o : Option ℕ) → Grows (λ n. behind ts n o)
behind_grows ts None n m l = below_same (Some None)
behind_grows ts (Some k) n m l = below_map (as_eigens n ts) (as_eigens m ts) (option_map (λ ks. k ∷ ks)) (as_eigens_more n m l ts)

behind_comes : (ts : List Term) → Comes (λ n. as_eigens n ts) → (o : Option ℕ) → Comes (λ n. behind ts n o)
behind_comes ts c None = comes_at_once (λ n. behind ts n None) None refl
behind_comes ts c (Some k) = comes_map (λ n. as_eigens n ts) (option_map (λ ks. k ∷ ks)) c

eigens_come : (ts : List Term) (w : ℕ) → AllWeigh ts w → Comes (λ n. as_eigens n ts)
eigens_come [] w h = comes_at_once (λ n. as_eigens n []) (Some []) refl
eigens_come (t ∷ ts) w h =
    let c = eigens_come ts h.1 h.2.1.1 in
    comes_then (λ n. as_eigen n t) (behind ts) (λ n m l. as_eigen_more n m l t) (behind_grows ts) (eigen_comes h.2.1.0) (λ o n e. behind_comes ts c o)

pub pattern_comes : (l : ℕ) (ts : List Term) (w : ℕ) → AllWeigh ts w → Comes (λ n. pattern_of n l ts)
pattern_comes l ts w h = comes_map (λ n. as_eigens n ts) _ (eigens_come ts w h)
