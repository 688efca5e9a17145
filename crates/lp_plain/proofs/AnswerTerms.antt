-- Terms and pairs of an answer, one more.
use Rattle.std.proofs.Common.{◌≡◌, ℕ, zero, suc, ◌<◌, List, [], ◌∷◌, ◌++◌, map, length, take, refl, sym, ap, ◌∙◌, subst, arith, Some}
use Rattle.std.specs.Prelude.{◌^◌, All, slice_get}
use Rattle.std.proofs.lemmas.List.{length-append}
use Rattle.std.proofs.lemmas.List.Elements.{All-append, All-cons, All-head, All-nil, All-tail, All-weaker}
use Rattle.lp_calculus.specs.Fill.{Within}
use Rattle.lp_calculus.specs.Term.{Term, atom, logic}
use Rattle.lp_lemmas.proofs.Lists.{map_agree_on, map_pushed, take_suc}
use Rattle.lp_term.specs.Memo.{AreMade}
use Rattle.lp_term.specs.Nodes.{Nodes, Extends, tree}
use Rattle.lp_term.specs.Same.{same_map}
use Rattle.lp_term.specs.Spine.{LooseBelow}
use Rattle.lp_term.specs.Within.{AreTermsOf, IsTermOf}
use Rattle.lp_term.specs.declared.changed.Changed.{Changed}
use Rattle.lp_term.specs.declared.node.TermId.{TermId}
use Rattle.lp_term.proofs.Trees.{extends_same, extends-trans}
use Rattle.lp_model.specs.Pair.{Closing, Pair, closed}
use Rattle.lp_model.specs.Readings.{pair_of}
use Rattle.lp_model.specs.declared.answer.Pair.{Pair as Numbers}
use Rattle.lp_pattern.specs.Growing.{IsPairOf}
use Rattle.lp_pattern.specs.Stripping.{IsShut}
use Rattle.lp_pattern.specs.Under.{IsReading}
use Rattle.lp_pattern.specs.declared.bindings.Bindings.{Bindings}
use Rattle.lp_pattern.proofs.Walking.{reading_kept}
use Rattle.lp_pattern.specs.Putting.{Known}
use Rattle.lp_pattern.specs.Turning.{AreKnownPairs, ArePairsFor}
use Rattle.lp_pattern.proofs.PairsThrough.{within_reached}
use Rattle.lp_model.specs.Whole.{CanBeShown, CanPairBeShown}
use Rattle.lp_model.specs.Branch.{Answer}
use Rattle.lp_model.specs.Search.{vars_from}
use Rattle.lp_plain.specs.declared.machine.Machine.{Machine}
use Rattle.lp_plain.specs.Moving.{IsAnswer, Query}
use Rattle.lp_plain.specs.Telling.{ArePairReducts, IsReduct}
use Rattle.lp_plain.specs.inner.Answering.{AreCopied, AreFilled, ArePairsCopied, ArePairsFilled, pair_under}
use Rattle.lp_plain.proofs.Closings.{closed_loose, loose_more}
use Rattle.lp_plain.proofs.TrialParts.{within_loose}
use Rattle.lp_plain.proofs.Within.{all_at}

trees_later : (b d : Nodes) → Extends b d → (ts : List TermId) → AreTermsOf b ts → map (λ t. tree d t.0) ts ≡ map (λ t. tree b t.0) ts
trees_later b d x ts w = map_agree_on (IsTermOf b) (λ (t : TermId). tree d t.0) (λ (t : TermId). tree b t.0) (λ t l. x.same_terms t.0 l) ts w

terms_later : (b d : Nodes) → Extends b d → (ts : List TermId) → AreTermsOf b ts → AreTermsOf d ts
terms_later b d x ts w = All-weaker (IsTermOf b) (IsTermOf d) (λ t l. let m = x.more_terms in omega (arith, l, m)) ts w

pair_later : (b d : Nodes) → Extends b d → (q : Numbers) → IsPairOf (length b.terms) q → pair_of d q ≡ pair_of b q
pair_later b d x q w = λ i. record { left = x.same_terms q.left.0 w.0 i; right = x.same_terms q.right.0 w.1 i; level = q.level }

pairs_later : (b d : Nodes) → Extends b d → (qs : List Numbers) → All (IsPairOf (length b.terms)) qs → map (pair_of d) qs ≡ map (pair_of b) qs
pairs_later b d x qs w = map_agree_on (IsPairOf (length b.terms)) (pair_of d) (pair_of b) (λ q l. pair_later b d x q l) qs w

pairs_stand : (b d : Nodes) → Extends b d → (qs : List Numbers) → All (IsPairOf (length b.terms)) qs → All (IsPairOf (length d.terms)) qs
pairs_stand b d x qs w = All-weaker (IsPairOf (length b.terms)) (IsPairOf (length d.terms)) (λ q l. (let m = x.more_terms in let i = l.0 in let j = l.1 in (omega (arith, i, m), omega (arith, j, m)))) qs w

-- one more of a list
map_more : {A B C : Type 0} (f : A → C) (g : B → C) (xs : List A) (x : A) (ys : List B) (y : B) (at : ℕ) → slice_get ys at ≡ Some y → map f xs ≡ map g (take at ys) → f x ≡ g y → map f (xs ++ x ∷ []) ≡ map g (take (suc at) ys)
map_more f g xs x ys y at got h e =
    map_pushed f xs (xs ++ x ∷ []) x refl ∙ (λ i. h i ++ e i ∷ []) ∙ sym (map_pushed g (take at ys) (take (suc at) ys) y (take_suc ys at y got))

pub one_more : {A : Type 0} (P : A → Type 0) (xs : List A) (x : A) → All P xs → P x → All P (xs ++ x ∷ [])
one_more P xs x h p = All-append P xs (x ∷ []) h (All-cons P x [] p (All-nil P))

pub one_taken : {A : Type 0} (P : A → Type 0) (xs : List A) (at : ℕ) (x : A) → slice_get xs at ≡ Some x → All P (take at xs) → P x → All P (take (suc at) xs)
one_taken P xs at x got h p = subst (All P) (sym (take_suc xs at x got)) (one_more P (take at xs) x h p)

module _ (s : Bindings) (old new next : Nodes) (ts made : List TermId) (at : ℕ) (t y : TermId) (h : AreFilled s old new ts made at) (x : Extends new next) (got : slice_get ts at ≡ Some t) (l : at < length ts) (there : y.0 < length next.terms)
    (filled : (c : Closing) → IsReading new s c → IsShut c → tree next y.0 ≡ closed c (tree new t.0)) where
  pub filled_more : AreFilled s old next ts (made ++ y ∷ []) (suc at)
  filled_more = record {
    kept = extends-trans old new next h.kept x;
    few = omega (arith, l);
    count = (let e = length-append made (y ∷ []) in let k = h.count in omega (arith, e, k));
    within = one_more (IsTermOf next) made y (terms_later new next x made h.within) there;
    are = λ c r sh w.
        map_more (λ t. tree next t.0) (λ t. closed c (tree old t.0)) made y ts t at got (trees_later new next x made h.within ∙ h.are c r sh w)
        (filled c (reading_kept old new s c h.kept r) sh ∙ ap (closed c) (h.kept.same_terms t.0 (all_at (IsTermOf old) ts at t got w)));
  }

module _ (s : Bindings) (old new mid next : Nodes) (ps made : List Numbers) (at : ℕ) (p q : Numbers) (h : ArePairsFilled s old new ps made at) (x : Extends new mid) (z : Extends mid next) (got : slice_get ps at ≡ Some p) (l : at < length ps)
    (il : q.left.0 < length mid.terms) (ir : q.right.0 < length next.terms) (level : q.level ≡ p.level) (left : (c : Closing) → IsReading new s c → IsShut c → tree mid q.left.0 ≡ closed c (tree new p.left.0))
    (right : (c : Closing) → IsReading mid s c → IsShut c → tree next q.right.0 ≡ closed c (tree mid p.right.0)) where
  pub filled_pair_more : ArePairsFilled s old next ps (made ++ q ∷ []) (suc at)
  filled_pair_more =
      let xz = extends-trans new mid next x z in
      record {
        kept = extends-trans old new next h.kept xz;
        few = omega (arith, l);
        within = one_more (IsPairOf (length next.terms)) made q (pairs_stand new next xz made h.within) (let m = z.more_terms in (omega (arith, il, m), omega (arith, ir)));
        are = λ c r sh w.
            (let stands = all_at (IsPairOf (length old.terms)) ps at p got w in
            let rn = reading_kept old new s c h.kept r in
            let rm = reading_kept new mid s c x rn in
            let om = extends-trans old new mid h.kept x in
            let el = z.same_terms q.left.0 il ∙ left c rn sh ∙ ap (closed c) (h.kept.same_terms p.left.0 stands.0) in
            let er = right c rm sh ∙ ap (closed c) (om.same_terms p.right.0 stands.1) in
            map_more (pair_of next) (pair_under old c) made q ps p at got (pairs_later new next xz made h.within ∙ h.are c r sh w) (λ i. record { left = el i; right = er i; level = level i }));
      }

module _ (from old new next : Nodes) (before copies after : Changed) (ts made : List TermId) (at : ℕ) (t y : TermId) (h : AreCopied from old new before copies ts made at) (x : Extends new next) (got : slice_get ts at ≡ Some t) (l : at < length ts)
    (there : y.0 < length next.terms) (copied : AreMade same_map from new copies → tree next y.0 ≡ tree from t.0) (memo : AreMade same_map from new copies → AreMade same_map from next after) where
  pub copied_more : AreCopied from old next before after ts (made ++ y ∷ []) (suc at)
  copied_more = record {
    kept = extends-trans old new next h.kept x;
    few = omega (arith, l);
    count = (let e = length-append made (y ∷ []) in let k = h.count in omega (arith, e, k));
    within = one_more (IsTermOf next) made y (terms_later new next x made h.within) there;
    are = λ m. map_more (λ t. tree next t.0) (λ t. tree from t.0) made y ts t at got (trees_later new next x made h.within ∙ h.are m) (copied (h.memo m));
    memo = λ m. memo (h.memo m);
  }

module _ (from old new mid next : Nodes) (before copies one after : Changed) (ps made : List Numbers) (at : ℕ) (p q : Numbers) (h : ArePairsCopied from old new before copies ps made at) (x : Extends new mid) (z : Extends mid next) (got : slice_get ps at ≡ Some p)
    (l : at < length ps) (il : q.left.0 < length mid.terms) (ir : q.right.0 < length next.terms) (level : q.level ≡ p.level) (left : AreMade same_map from new copies → tree mid q.left.0 ≡ tree from p.left.0)
    (right : AreMade same_map from mid one → tree next q.right.0 ≡ tree from p.right.0) (first : AreMade same_map from new copies → AreMade same_map from mid one) (second : AreMade same_map from mid one → AreMade same_map from next after) where
  pub copied_pair_more : ArePairsCopied from old next before after ps (made ++ q ∷ []) (suc at)
  copied_pair_more =
      let xz = extends-trans new mid next x z in
      record {
        kept = extends-trans old new next h.kept xz;
        few = omega (arith, l);
        within = one_more (IsPairOf (length next.terms)) made q (pairs_stand new next xz made h.within) (let m = z.more_terms in (omega (arith, il, m), omega (arith, ir)));
        are = λ m.
            (let m1 = h.memo m in
            let el = z.same_terms q.left.0 il ∙ left m1 in
            let er = right (first m1) in
            map_more (pair_of next) (pair_of from) made q ps p at got (pairs_later new next xz made h.within ∙ h.are m) (λ i. record { left = el i; right = er i; level = level i }));
        memo = λ m. second (first (h.memo m));
      }

-- at first there is none
pub none_filled : (s : Bindings) (b : Nodes) (ts made : List TermId) → made ≡ [] → AreFilled s b b ts made 0
none_filled s b ts made e = record { kept = extends_same b; few = omega arith; count = ap length e; within = subst (AreTermsOf b) (sym e) (All-nil (IsTermOf b)); are = λ c r sh w. ap (map (λ t. tree b t.0)) e }

pub no_pairs_filled : (s : Bindings) (b : Nodes) (ps made : List Numbers) → made ≡ [] → ArePairsFilled s b b ps made 0
no_pairs_filled s b ps made e = record { kept = extends_same b; few = omega arith; within = subst (All (IsPairOf (length b.terms))) (sym e) (All-nil (IsPairOf (length b.terms))); are = λ c r sh w. ap (map (pair_of b)) e }

pub none_copied : (from to : Nodes) (copies : Changed) (ts made : List TermId) → made ≡ [] → AreCopied from to to copies copies ts made 0
none_copied from to copies ts made e = record { kept = extends_same to; few = omega arith; count = ap length e; within = subst (AreTermsOf to) (sym e) (All-nil (IsTermOf to)); are = λ m. ap (map (λ t. tree to t.0)) e; memo = λ m. m }

pub no_pairs_copied : (from to : Nodes) (copies : Changed) (ps made : List Numbers) → made ≡ [] → ArePairsCopied from to to copies copies ps made 0
no_pairs_copied from to copies ps made e = record { kept = extends_same to; few = omega arith; within = subst (All (IsPairOf (length to.terms))) (sym e) (All-nil (IsPairOf (length to.terms))); are = λ m. ap (map (pair_of to)) e; memo = λ m. m }

-- the answer as a whole
pairs_reduce : (b : Nodes) (z : Closing) (qs : List Numbers) (ps : List Pair) → ArePairsFor b z qs ps → ArePairReducts ps (map (pair_under b z) qs)
pairs_reduce b z [] [] h = tt
pairs_reduce b z [] (p ∷ ps) h = absurd h
pairs_reduce b z (q ∷ qs) [] h = absurd h
pairs_reduce b z (q ∷ qs) (p ∷ ps) h = (sym h.0.stands, h.0.left, h.0.right, pairs_reduce b z qs ps h.1)

-- terms and pairs of a bank whose loose indices are small can be shown

shown_terms : (b : Nodes) (ts : List TermId) → AreTermsOf b ts → All (LooseBelow (2 ^ 32) 0) (map (λ t. tree b t.0) ts) → All (CanBeShown b) ts
shown_terms b [] w h = All-nil (CanBeShown b)
shown_terms b (t ∷ ts) w h = All-cons (CanBeShown b) t ts (All-head (IsTermOf b) t ts w, All-head (LooseBelow (2 ^ 32) 0) (tree b t.0) (map (λ t. tree b t.0) ts) h)
    (shown_terms b ts (All-tail (IsTermOf b) t ts w) (All-tail (LooseBelow (2 ^ 32) 0) (tree b t.0) (map (λ t. tree b t.0) ts) h))

reduct_loose : (lv : ℕ → ℕ) (n : ℕ) (t u : Term) → Within (Known lv n) 0 t → IsReduct t u → LooseBelow (2 ^ 32) 0 u
reduct_loose lv n t u w r = loose_more (2 ^ 32) 0 0 u (omega arith) (within_loose (Known lv n) 0 0 0 u refl (within_reached lv n r.0 t u r.1 w))

shown_pairs : (b : Nodes) (lv : ℕ → ℕ) (n : ℕ) (qs : List Numbers) → All (IsPairOf (length b.terms)) qs → (ps : List Pair) → AreKnownPairs lv n ps → ArePairReducts ps (map (pair_of b) qs) → All (CanPairBeShown b) qs
shown_pairs b lv n [] w ps k h = All-nil (CanPairBeShown b)
shown_pairs b lv n (q ∷ qs) w [] k h = absurd h
shown_pairs b lv n (q ∷ qs) w (p ∷ ps) k h =
    let l = All-head (IsPairOf (length b.terms)) q qs w in
    All-cons (CanPairBeShown b) q qs ((l.0, reduct_loose lv n p.left (tree b q.left.0) k.0.0 h.1), (l.1, reduct_loose lv n p.right (tree b q.right.0) k.0.1 h.2))
    (shown_pairs b lv n qs (All-tail (IsPairOf (length b.terms)) q qs w) ps k.1 h.3)

module _ (qv : Query) (m : Machine) (x : Answer) (a : IsAnswer qv m x) (b1 b2 b3 to0 to1 to2 : Nodes) (vs full : List TermId) (sides : List Numbers) (values : List TermId) (pairs : List Numbers) (k1 : Extends m.bank b1) (in1 : AreTermsOf b1 vs)
    (trees : map (λ t. tree b1 t.0) vs ≡ vars_from qv.vars 0) (k2 : Extends b1 b2)
    (filled : (c : Closing) → IsReading b1 m.bindings c → IsShut c → AreTermsOf b1 vs → map (λ t. tree b2 t.0) full ≡ map (λ t. closed c (tree b1 t.0)) vs) (k3 : Extends b2 b3)
    (pairs_filled : (c : Closing) → IsReading b2 m.bindings c → IsShut c → All (IsPairOf (length b2.terms)) m.branch.pairs.items → map (pair_of b3) sides ≡ map (pair_under b2 c) m.branch.pairs.items)
    (in_full : AreTermsOf b2 full) (copied : map (λ t. tree to1 t.0) values ≡ map (λ t. tree b3 t.0) full) (in_values : AreTermsOf to1 values) (k5 : Extends to1 to2) (pairs_copied : map (pair_of to2) pairs ≡ map (pair_of b3) sides) where
  closings : (z : Closing) (ts : List TermId) → map (λ t. closed z (tree b1 t.0)) ts ≡ map (closed z) (map (λ t. tree b1 t.0) ts)
  closings z [] = refl
  closings z (t ∷ ts) = ap (λ l. closed z (tree b1 t.0) ∷ l) (closings z ts)

  pub values_are : map (λ t. tree to2 t.0) values ≡ x.values
  values_are =
      let r1 = reading_kept m.bank b1 m.bindings a.closing k1 a.reading.reading in
      trees_later to1 to2 k5 values in_values ∙ copied ∙ trees_later b2 b3 k3 full in_full ∙ filled a.closing r1 a.reading.shut in1 ∙ closings a.closing vs ∙ ap (map (closed a.closing)) trees ∙ sym a.values

  same_pairs : (qs : List Numbers) → All (IsPairOf (length m.bank.terms)) qs → map (pair_under b2 a.closing) qs ≡ map (pair_under m.bank a.closing) qs
  same_pairs qs w =
      let k12 = extends-trans m.bank b1 b2 k1 k2 in
      map_agree_on (IsPairOf (length m.bank.terms)) (pair_under b2 a.closing) (pair_under m.bank a.closing)
      (λ q l i. record { left = closed a.closing (k12.same_terms q.left.0 l.0 i); right = closed a.closing (k12.same_terms q.right.0 l.1 i); level = q.level }) qs w

  pub pairs_are : ArePairReducts x.pairs (map (pair_of to2) pairs)
  pairs_are =
      let k12 = extends-trans m.bank b1 b2 k1 k2 in
      let r2 = reading_kept m.bank b2 m.bindings a.closing k12 a.reading.reading in
      let e = pairs_copied ∙ pairs_filled a.closing r2 a.reading.shut (pairs_stand m.bank b2 k12 m.branch.pairs.items a.left) ∙ same_pairs m.branch.pairs.items a.left in
      subst (ArePairReducts x.pairs) (sym e) (pairs_reduce m.bank a.closing m.branch.pairs.items x.pairs a.pairs)

  -- each value and each side of a pair can be shown
  vars_shut : (n i : ℕ) → All (LooseBelow (2 ^ 32) 0) (map (closed a.closing) (vars_from n i))
  vars_shut zero i = All-nil (LooseBelow (2 ^ 32) 0)
  vars_shut (suc n) i = All-cons (LooseBelow (2 ^ 32) 0) (closed a.closing (atom (logic i 0))) (map (closed a.closing) (vars_from n (suc i))) (closed_loose a.closing a.reading.shut (2 ^ 32) 0 (atom (logic i 0)) tt) (vars_shut n (suc i))

  pub values_shown : All (CanBeShown to2) values
  values_shown = shown_terms to2 values (terms_later to1 to2 k5 values in_values) (subst (All (LooseBelow (2 ^ 32) 0)) (sym (values_are ∙ a.values)) (vars_shut qv.vars 0))

  pub pairs_shown : All (IsPairOf (length to2.terms)) pairs → All (CanPairBeShown to2) pairs
  pairs_shown w = shown_pairs to2 a.levels x.next pairs w x.pairs a.known pairs_are
