-- What a scan that neither fails nor delays has seen, up to conversion and whatever the names of the eigenconstants that it opens with: such a term is
-- opened with each eigenconstant from some on, has an allowed rigid head, is a pattern, or has allowed atoms alone.
use Rattle.std.proofs.Common.{◌≡◌, ℕ, zero, suc, ◌+◌, ◌<◌, ◌≤◌, List, [], ◌∷◌, ◌++◌, map, ◌∙◌, refl, sym, ap, subst as transport, arith, Bool, true, false, nat_eq, if◌then◌else◌}
use Rattle.std.specs.Prelude.{nat_lt, ◌&&◌}
use Rattle.std.proofs.lemmas.Bool.Decides.{nat_tests}
use Rattle.lp_calculus.specs.Term.{Term, Atom, index, atom, abs, app, apply, constant, integer, text, eigen, logic, param}
use Rattle.lp_calculus.specs.Convert.{Converts, same, ConvertAll, convert_none, convert_more}
use Rattle.lp_calculus.specs.Fill.{Within, fill, at_eigens}
use Rattle.lp_calculus.proofs.Fills.{within_more, within_fill, fill_none}
use Rattle.lp_calculus.proofs.Steps.{converts_on, converts_sym, converts_app, converts_is, converts_reduces, converts_fill}
use Rattle.lp_calculus.proofs.Rigid.{IsRigid, rigid_head, EachReaches, reaches_none, reaches_more, rigid_reaches, head_reaches, heads_joint}
use Rattle.lp_model.specs.Patterns.{eigens}
use Rattle.lp_model.specs.Look.{are_above}
use Rattle.lp_model.specs.Scan.{Side, is_side, allows, allows_head, Pattern}
use Rattle.lp_unify_laws.specs.Levels.{UpTo}
use Rattle.lp_unify_laws.proofs.Abstractions.{Avoids, Distinct, distinct_tells}
use Rattle.lp_unify_laws.proofs.Closings.{within_apply}
use Rattle.lp_unify_laws.proofs.Cleans.{allows_local}
use Rattle.lp_unify_laws.proofs.Scans.{Seen, Scans, ScansAll, scans_abs, scans_rigid, scans_pattern, scans_flexible, scans_none, scans_more, open_converts}
use Rattle.lp_unify_laws.proofs.Termination.Stricts.{Allowed, IsStrict, AllStrict, strict_like, strict_apply, strict_opens, rigid_strict, flexible_strict, all_strict}

abbrev pub AllAbove : ℕ → List ℕ → Type 0
AllAbove m [] = Unit {0}
AllAbove m (c ∷ b) = (m < c) × AllAbove m b

mutual
  pub data Semi (s : Side) : Term → Type 0 where
    open_on : {t : Term} → (L : ℕ) → ((j : ℕ) → L < j → Semi s (app t (atom (eigen j)))) → Semi s t
    rigid_on : {t : Term} → (h : Term) → (ts : List Term) → Converts t (apply h ts) → IsRigid h → allows_head s h ≡ true → AllSemi s ts → Semi s t
    pattern_on : {t : Term} → (y m : ℕ) → (b : List ℕ) → Converts t (apply (atom (logic y m)) (eigens b)) → Distinct b → AllAbove m b → m ≤ s.pair → is_side s y m ≡ false → Semi s t
    strict_on : {t : Term} → IsStrict s t → Semi s t

  pub data AllSemi (s : Side) : List Term → Type 0 where
    semi_none : AllSemi s []
    semi_more : {t : Term} {ts : List Term} → Semi s t → AllSemi s ts → AllSemi s (t ∷ ts)

pub semi_like : (s : Side) {t u : Term} → Converts u t → Semi s t → Semi s u
semi_like s c (open_on L f) = open_on L (λ j l. semi_like s (converts_app c (same (atom (eigen j)))) (f j l))
semi_like s c (rigid_on h ts d r a all) = rigid_on h ts (converts_on c d) r a all
semi_like s c (pattern_on y m b d i j p o) = pattern_on y m b (converts_on c d) i j p o
semi_like s c (strict_on z) = strict_on (strict_like c z)

pub all_like : (s : Side) {ts us : List Term} → ConvertAll us ts → AllSemi s ts → AllSemi s us
all_like s convert_none semi_none = semi_none
all_like s (convert_more c cs) (semi_more h hs) = semi_more (semi_like s c h) (all_like s cs hs)

pub all_sym : {ts us : List Term} → ConvertAll ts us → ConvertAll us ts
all_sym convert_none = convert_none
all_sym (convert_more c cs) = convert_more (converts_sym c) (all_sym cs)

pub strict_semi : (s : Side) (ts : List Term) → AllStrict s ts → AllSemi s ts
strict_semi s [] h = semi_none
strict_semi s (t ∷ ts) h = semi_more (strict_on h.0) (strict_semi s ts h.1)

-- two eigenconstants change places
abbrev pub swapped : ℕ → ℕ → ℕ → ℕ
swapped a c k = if nat_eq k a then c else (if nat_eq k c then a else k)

abbrev pub swap_atom : ℕ → ℕ → Atom → Term
swap_atom a c x = at_eigens (λ k. atom (eigen (swapped a c k))) x

abbrev pub swap : ℕ → ℕ → Term → Term
swap a c t = fill (swap_atom a c) t

swapped_other : (a c k : ℕ) → (k ≡ a → ⊥) → (k ≡ c → ⊥) → swapped a c k ≡ k
swapped_other a c k h i = grind (arith, nat_tests)

swapped_first : (a c : ℕ) → swapped a c a ≡ c
swapped_first a c = grind (arith, nat_tests)

swapped_twice : (a c k : ℕ) → swapped a c (swapped a c k) ≡ k
swapped_twice a c k = grind (arith, nat_tests)

swap_apart : (a c k j : ℕ) → (k ≡ j → ⊥) → swapped a c k ≡ swapped a c j → ⊥
swap_apart a c k j n e = n (sym (swapped_twice a c k) ∙ ap (swapped a c) e ∙ swapped_twice a c j)

swap_avoids : (a c k : ℕ) (b : List ℕ) → Avoids b (eigen k) → Avoids (map (swapped a c) b) (eigen (swapped a c k))
swap_avoids a c k [] h = tt
swap_avoids a c k (d ∷ b) h = (swap_apart a c k d h.0, swap_avoids a c k b h.1)

swap_distinct : (a c : ℕ) (b : List ℕ) → Distinct b → Distinct (map (swapped a c) b)
swap_distinct a c [] h = tt
swap_distinct a c (d ∷ b) h = (swap_avoids a c d b h.0, swap_distinct a c b h.1)

swap_over : (a c m k : ℕ) → m < a → m < c → m < k → m < swapped a c k
swap_over a c m k h i j = if_over (nat_eq k a) (nat_eq k c)
  where
    if_over : (x y : Bool) → m < (if x then c else (if y then a else k))
    if_over true y = i
    if_over false true = h
    if_over false false = j

swap_above : (a c m : ℕ) (b : List ℕ) → m < a → m < c → AllAbove m b → AllAbove m (map (swapped a c) b)
swap_above a c m [] h i k = tt
swap_above a c m (d ∷ b) h i k = (swap_over a c m d h i k.0, swap_above a c m b h i k.1)

local : (s : Side) (j : ℕ) → s.pair < j → allows s j ≡ true
local s zero h = absurd (omega arith)
local s (suc j) h = allows_local s j (omega arith)

swap_allowed : (s : Side) (a c k : ℕ) → s.pair < a → s.pair < c → allows s k ≡ true → allows s (swapped a c k) ≡ true
swap_allowed s a c k h i e = if_allowed (nat_eq k a) (nat_eq k c)
  where
    if_allowed : (x y : Bool) → allows s (if x then c else (if y then a else k)) ≡ true
    if_allowed true y = local s c i
    if_allowed false true = local s a h
    if_allowed false false = e

swap_allowed_atom : (s : Side) (a c : ℕ) → s.pair < a → s.pair < c → (x : Atom) → Allowed s x → Within (Allowed s) 0 (swap_atom a c x)
swap_allowed_atom s a c h i (eigen k) e = swap_allowed s a c k h i e
swap_allowed_atom s a c h i (logic x l) e = e
swap_allowed_atom s a c h i (constant k ts) e = tt
swap_allowed_atom s a c h i (integer z) e = tt
swap_allowed_atom s a c h i (text t) e = tt
swap_allowed_atom s a c h i (param k t) e = tt

abbrev pub fill_all : (Atom → Term) → List Term → List Term
fill_all f [] = []
fill_all f (t ∷ ts) = fill f t ∷ fill_all f ts

pub fill_apply : (f : Atom → Term) (ts : List Term) (h : Term) → fill f (apply h ts) ≡ apply (fill f h) (fill_all f ts)
fill_apply f [] h = refl
fill_apply f (t ∷ ts) h = fill_apply f ts (app h t)

swap_pattern : (a c : ℕ) (b : List ℕ) (h : Term) → swap a c (apply h (eigens b)) ≡ apply (swap a c h) (eigens (map (swapped a c) b))
swap_pattern a c [] h = refl
swap_pattern a c (d ∷ b) h = swap_pattern a c b (app h (atom (eigen d)))

swap_rigid : (a c : ℕ) (h : Term) → IsRigid h → IsRigid (swap a c h)
swap_rigid a c (index i) r = tt
swap_rigid a c (atom (eigen k)) r = tt
swap_rigid a c (atom (constant k ts)) r = tt
swap_rigid a c (atom (integer z)) r = tt
swap_rigid a c (atom (text t)) r = tt
swap_rigid a c (atom (param k t)) r = tt
swap_rigid a c (atom (logic x l)) r = absurd r
swap_rigid a c (abs b) r = absurd r
swap_rigid a c (app f u) r = absurd r

swap_head : (s : Side) (a c : ℕ) → s.pair < a → s.pair < c → (h : Term) → IsRigid h → allows_head s h ≡ true → allows_head s (swap a c h) ≡ true
swap_head s a c p q (index i) r e = refl
swap_head s a c p q (atom (eigen k)) r e = swap_allowed s a c k p q e
swap_head s a c p q (atom (constant k ts)) r e = refl
swap_head s a c p q (atom (integer z)) r e = refl
swap_head s a c p q (atom (text t)) r e = refl
swap_head s a c p q (atom (param k t)) r e = refl
swap_head s a c p q (atom (logic x l)) r e = absurd r
swap_head s a c p q (abs b) r e = absurd r
swap_head s a c p q (app f u) r e = absurd r

mutual
  semi_swap : (s : Side) (a c : ℕ) → s.pair < a → s.pair < c → {t : Term} → Semi s t → Semi s (swap a c t)
  semi_swap s a c p q (open_on {t = t} L f) = open_on (L + a + c) (λ j l.
      let e : swapped a c j ≡ j = swapped_other a c j (λ z. omega arith) (λ z. omega arith) in
      transport (λ z. Semi s (app (swap a c t) (atom (eigen z)))) e (semi_swap s a c p q (f j (omega arith))))
  semi_swap s a c p q (rigid_on h ts d r e all) =
      rigid_on (swap a c h) (fill_all (swap_atom a c) ts) (converts_on (converts_fill (swap_atom a c) d) (converts_is (fill_apply (swap_atom a c) ts h))) (swap_rigid a c h r) (swap_head s a c p q h r e) (all_swap s a c p q all)
  semi_swap s a c p q (pattern_on y m b d i j l o) =
      pattern_on y m (map (swapped a c) b) (converts_on (converts_fill (swap_atom a c) d) (converts_is (swap_pattern a c b (atom (logic y m))))) (swap_distinct a c b i) (swap_above a c m b (omega arith) (omega arith) j) l o
  semi_swap s a c p q (strict_on z) = strict_on (record {
    to = swap a c z.to;
    converts = converts_fill (swap_atom a c) z.converts;
    within = within_fill (Allowed s) (Allowed s) (swap_atom a c) 0 (swap_allowed_atom s a c p q) z.to z.within;
  })

  all_swap : (s : Side) (a c : ℕ) → s.pair < a → s.pair < c → {ts : List Term} → AllSemi s ts → AllSemi s (fill_all (swap_atom a c) ts)
  all_swap s a c p q semi_none = semi_none
  all_swap s a c p q (semi_more h hs) = semi_more (semi_swap s a c p q h) (all_swap s a c p q hs)

-- one new eigenconstant is as good as another
up_swap : (k a c : ℕ) → k < a → k < c → (x : Atom) → UpTo k x → swap_atom a c x ≡ atom x
up_swap k a c h i (eigen j) e = let l : j ≤ k = e in ap (λ z. atom (eigen z)) (swapped_other a c j (λ z. omega arith) (λ z. omega arith))
up_swap k a c h i (logic x l) e = refl
up_swap k a c h i (constant d ts) e = refl
up_swap k a c h i (integer z) e = refl
up_swap k a c h i (text t) e = refl
up_swap k a c h i (param d t) e = refl

pub semi_moved : (s : Side) (k a c : ℕ) (t : Term) → s.pair < a → s.pair < c → k < a → k < c → Within (UpTo k) 0 t → Semi s (app t (atom (eigen a))) → Semi s (app t (atom (eigen c)))
semi_moved s k a c t p q h i w z =
    transport (λ x. Semi s (app x (atom (eigen c)))) (fill_none (UpTo k) (swap_atom a c) (up_swap k a c h i) 0 t w)
    (transport (λ x. Semi s (app (swap a c t) (atom (eigen x)))) (swapped_first a c) (semi_swap s a c p q z))

-- what a scan has seen
seen_up : (next p k : ℕ) (a : Atom) → Seen next p k a → UpTo k a
seen_up next p k (eigen j) h = h
seen_up next p k (logic x l) h = tt
seen_up next p k (constant c ts) h = tt
seen_up next p k (integer z) h = tt
seen_up next p k (text t) h = tt
seen_up next p k (param i t) h = tt

above_split : (m c : ℕ) (b : List ℕ) → (are_above m b ≡ true → AllAbove m b) → (x : Bool) → nat_lt m c ≡ x → (x && are_above m b) ≡ true → (m < c) × AllAbove m b
above_split m c b ι true e i = (let q : m < c = grind (arith, nat_tests) in q, ι i)
above_split m c b ι false e i = absurd (cc)

pub above_tells : (m : ℕ) (b : List ℕ) → are_above m b ≡ true → AllAbove m b
above_tells m [] h = tt
above_tells m (c ∷ b) h = above_split m c b (above_tells m b) (nat_lt m c) refl h

mutual
  pub scans_semi : (s : Side) (next : ℕ) {inside : Bool} {k : ℕ} {t : Term} {ps : List Pattern} → Scans s next inside k t ps → s.pair ≤ k → Semi s t
  scans_semi s next (scans_abs {k = k} {t = t} b w r d) l = open_on k (λ j i.
      semi_moved s k (suc k) j t (omega arith) (omega arith) (omega arith) i (within_more (Seen next s.pair k) (UpTo k) 0 0 (seen_up next s.pair k) (omega arith) t w)
      (semi_like s (open_converts (suc k) t b r) (scans_semi s next d (omega arith))))
  scans_semi s next (scans_rigid h ts w r g a d) l = rigid_on h ts (converts_reduces r) g a (all_semi s next d l)
  scans_semi s next (scans_pattern y m b r o f) l =
      let v = (within_apply (Seen next s.pair _) (eigens b) (atom (logic y m)) o.within).0 in
      pattern_on y m b (converts_reduces r) (distinct_tells b o.distinct) (above_tells m b o.above) v.1 o.other
  scans_semi s next (scans_flexible y m ts r w o f d) l =
      strict_on (strict_like (converts_reduces r) (strict_apply s (atom (logic y m)) (record { to = atom (logic y m); converts = same (atom (logic y m)); within = (o, f) }) ts (all_strict s next d refl l)))

  pub all_semi : (s : Side) (next : ℕ) {inside : Bool} {k : ℕ} {ts : List Term} {ps : List Pattern} → ScansAll s next inside k ts ps → s.pair ≤ k → AllSemi s ts
  all_semi s next scans_none l = semi_none
  all_semi s next (scans_more ps qs e d ds) l = semi_more (scans_semi s next d l) (all_semi s next ds l)

-- opened with the next eigenconstant
pub apply_last : (ts : List Term) (u h : Term) → apply h (ts ++ u ∷ []) ≡ app (apply h ts) u
apply_last [] u h = refl
apply_last (t ∷ ts) u h = apply_last ts u (app h t)

pub eigens_last : (b : List ℕ) (c : ℕ) → eigens (b ++ c ∷ []) ≡ eigens b ++ atom (eigen c) ∷ []
eigens_last [] c = refl
eigens_last (d ∷ b) c = ap (λ z. atom (eigen d) ∷ z) (eigens_last b c)

all_last : (s : Side) (ts : List Term) (u : Term) → AllSemi s ts → Semi s u → AllSemi s (ts ++ u ∷ [])
all_last s _ u semi_none h = semi_more h semi_none
all_last s _ u (semi_more k ks) h = semi_more k (all_last s _ u ks h)

abbrev AllUp : ℕ → List ℕ → Type 0
AllUp k [] = Unit {0}
AllUp k (c ∷ b) = (c ≤ k) × AllUp k b

eigens_up : (k : ℕ) (b : List ℕ) {ts : List Term} → EachReaches (UpTo k) ts → ts ≡ eigens b → AllUp k b
eigens_up k [] h e = tt
eigens_up k (c ∷ b) reaches_none e = absurd (cc)
eigens_up k (c ∷ b) (reaches_more {t = t} u r w all) e =
    let q : t ≡ atom (eigen c) = cc in
    ((rigid_reaches (UpTo k) (atom (eigen c)) [] u tt (transport (λ z. Converts z u) q (converts_reduces r)) w).0, eigens_up k b all (cc))

avoids_last : (k c : ℕ) (b : List ℕ) → Avoids b (eigen k) → (k ≡ c → ⊥) → Avoids (b ++ c ∷ []) (eigen k)
avoids_last k c [] h n = (n, tt)
avoids_last k c (d ∷ b) h n = (h.0, avoids_last k c b h.1 n)

pub distinct_last : (k : ℕ) (b : List ℕ) → Distinct b → AllUp k b → Distinct (b ++ suc k ∷ [])
distinct_last k [] h u = (tt, tt)
distinct_last k (c ∷ b) h u = let i : c ≤ k = u.0 in (avoids_last c (suc k) b h.0 (λ e. omega arith), distinct_last k b h.1 u.1)

pub above_last : (m c : ℕ) (b : List ℕ) → AllAbove m b → m < c → AllAbove m (b ++ c ∷ [])
above_last m c [] h l = (l, tt)
above_last m c (d ∷ b) h l = (h.0, above_last m c b h.1 l)

pub semi_opens : (s : Side) (k : ℕ) (t : Term) → s.pair ≤ k → Within (UpTo k) 0 t → Semi s t → Semi s (app t (atom (eigen (suc k))))
semi_opens s k t l w (open_on L f) = semi_moved s k (suc (L + k)) (suc k) t (omega arith) (omega arith) (omega arith) (omega arith) w (f (suc (L + k)) (omega arith))
semi_opens s k t l w (rigid_on h ts d r a all) =
    rigid_on h (ts ++ atom (eigen (suc k)) ∷ []) (converts_on (converts_app d (same (atom (eigen (suc k))))) (converts_is (sym (apply_last ts (atom (eigen (suc k))) h)))) r a
    (all_last s ts (atom (eigen (suc k))) all (strict_on (record { to = atom (eigen (suc k)); converts = same (atom (eigen (suc k))); within = allows_local s k l })))
semi_opens s k t l w (pattern_on y m b d i j p o) =
    let up = eigens_up k b (head_reaches (UpTo k) (atom (logic y m)) (eigens b) t tt (converts_sym d) w).1 refl in
    pattern_on y m (b ++ suc k ∷ []) (converts_on (converts_app d (same (atom (eigen (suc k)))))
    (converts_is (sym (apply_last (eigens b) (atom (eigen (suc k))) (atom (logic y m))) ∙ ap (apply (atom (logic y m)))
    (sym (eigens_last b (suc k)))))) (distinct_last k b i up) (above_last m (suc k) b j (omega arith)) p o
semi_opens s k t l w (strict_on z) = strict_on (strict_opens s k t l z)

-- what a head tells
last_split : (s : Side) (us : List Term) (u : Term) {ts : List Term} → AllSemi s ts → ts ≡ us ++ u ∷ [] → AllSemi s us
last_split s [] u h e = semi_none
last_split s (v ∷ us) u semi_none e = absurd (cc)
last_split s (v ∷ us) u (semi_more {t = t} k ks) e = let q : t ≡ v = cc in semi_more (transport (Semi s) q k) (last_split s us u ks (cc))

pub rigid_semi : (s : Side) {t : Term} → Semi s t → (g : Term) (us : List Term) → IsRigid g → Converts t (apply g us) → (allows_head s g ≡ true) × AllSemi s us
rigid_semi s (open_on {t = t} L f) g us r c =
    let e = atom (eigen (suc L)) in
    let z = rigid_semi s (f (suc L) (omega arith)) g (us ++ e ∷ []) r (converts_on (converts_app c (same e)) (converts_is (sym (apply_last us e g)))) in
    (z.0, last_split s us e z.1 refl)
rigid_semi s (rigid_on h ts d q a all) g us r c =
    let j = heads_joint h g ts us (rigid_head h q) (rigid_head g r) (converts_on (converts_sym d) c) in
    (transport (λ z. allows_head s z ≡ true) j.heads a, all_like s (all_sym j.arguments) all)
rigid_semi s (pattern_on y m b d i k p o) g us r c =
    let j = heads_joint (atom (logic y m)) g (eigens b) us tt (rigid_head g r) (converts_on (converts_sym d) c) in
    absurd (transport IsRigid (sym j.heads) r)
rigid_semi s (strict_on z) g us r c = let q = rigid_strict s g us r (strict_like (converts_sym c) z) in (q.0, strict_semi s us q.1)

pub data FlexSemi (s : Side) (y m : ℕ) (us : List Term) : Type 0 where
  as_pattern : (b : List ℕ) → ConvertAll us (eigens b) → Distinct b → AllAbove m b → is_side s y m ≡ false → FlexSemi s y m us
  as_strict : is_side s y m ≡ false → nat_lt s.level m ≡ false → AllStrict s us → FlexSemi s y m us

record Init (us : List Term) (b : List ℕ) : Type 0 where
  init : List ℕ
  last : ℕ
  is : b ≡ init ++ last ∷ []
  converts : ConvertAll us (eigens init)

more_init : (v : Term) (us : List Term) (d : ℕ) (b : List ℕ) → Converts v (atom (eigen d)) → Init us b → Init (v ∷ us) (d ∷ b)
more_init v us d b c z = record { init = d ∷ z.init; last = z.last; is = ap (λ y. d ∷ y) z.is; converts = convert_more c z.converts }

init_of : (us : List Term) (u : Term) (b : List ℕ) {ts vs : List Term} → ConvertAll ts vs → ts ≡ us ++ u ∷ [] → vs ≡ eigens b → Init us b
init_of [] u [] convert_none e i = absurd (cc)
init_of [] u [] (convert_more c cs) e i = absurd (cc)
init_of [] u (d ∷ []) c e i = record { init = []; last = d; is = refl; converts = convert_none }
init_of [] u (d ∷ f ∷ b) convert_none e i = absurd (cc)
init_of [] u (d ∷ f ∷ b) (convert_more c convert_none) e i = absurd (cc)
init_of [] u (d ∷ f ∷ b) (convert_more c (convert_more c' cs)) e i = absurd (cc)
init_of (v ∷ us) u b convert_none e i = absurd (cc)
init_of (v ∷ us) u [] (convert_more c cs) e i = absurd (cc)
init_of (v ∷ us) u (d ∷ b) (convert_more {t = t} {u = x} c cs) e i =
    let q : t ≡ v = cc in let r : x ≡ atom (eigen d) = cc in
    more_init v us d b (transport (λ y. Converts y (atom (eigen d))) q (transport (Converts t) r c)) (init_of us u b cs (cc) (cc))

avoids_init : (k : ℕ) (b c : List ℕ) → Avoids (b ++ c) (eigen k) → Avoids b (eigen k)
avoids_init k [] c h = tt
avoids_init k (d ∷ b) c h = (h.0, avoids_init k b c h.1)

pub distinct_init : (b c : List ℕ) → Distinct (b ++ c) → Distinct b
distinct_init [] c h = tt
distinct_init (d ∷ b) c h = (avoids_init d b c h.0, distinct_init b c h.1)

pub above_init : (m : ℕ) (b c : List ℕ) → AllAbove m (b ++ c) → AllAbove m b
above_init m [] c h = tt
above_init m (d ∷ b) c h = (h.0, above_init m b c h.1)

strict_init : (s : Side) (us : List Term) (u : Term) → AllStrict s (us ++ u ∷ []) → AllStrict s us
strict_init s [] u h = tt
strict_init s (v ∷ us) u h = (h.0, strict_init s us u h.1)

flex_init : (s : Side) (y m : ℕ) (us : List Term) (u : Term) → FlexSemi s y m (us ++ u ∷ []) → FlexSemi s y m us
flex_init s y m us u (as_pattern b c i j o) =
    let z = init_of us u b c refl refl in
    as_pattern z.init z.converts (distinct_init z.init (z.last ∷ []) (transport Distinct z.is i)) (above_init m z.init (z.last ∷ []) (transport (AllAbove m) z.is j)) o
flex_init s y m us u (as_strict o f a) = as_strict o f (strict_init s us u a)

pub flex_semi : (s : Side) {t : Term} → Semi s t → (y m : ℕ) (us : List Term) → Converts t (apply (atom (logic y m)) us) → FlexSemi s y m us
flex_semi s (open_on {t = t} L f) y m us c =
    let e = atom (eigen (suc L)) in
    flex_init s y m us e (flex_semi s (f (suc L) (omega arith)) y m (us ++ e ∷ []) (converts_on (converts_app c (same e)) (converts_is (sym (apply_last us e (atom (logic y m)))))))
flex_semi s (rigid_on h ts d q a all) y m us c =
    let j = heads_joint h (atom (logic y m)) ts us (rigid_head h q) tt (converts_on (converts_sym d) c) in
    absurd (transport IsRigid j.heads q)
flex_semi s (pattern_on x l b d i k p o) y m us c =
    let j = heads_joint (atom (logic x l)) (atom (logic y m)) (eigens b) us tt tt (converts_on (converts_sym d) c) in
    let e : atom (logic x l) ≡ atom (logic y m) = j.heads in
    let q : x ≡ y = cc in let r : l ≡ m = cc in
    as_pattern b (all_sym j.arguments) i (transport (λ z. AllAbove z b) r k) (transport (λ z. is_side s z m ≡ false) q (transport (λ z. is_side s x z ≡ false) r o))
flex_semi s (strict_on z) y m us c = let q = flexible_strict s y m us (strict_like (converts_sym c) z) in as_strict q.0.0 q.0.1 q.1
