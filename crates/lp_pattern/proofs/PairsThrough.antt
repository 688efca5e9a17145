-- Pairs that steps lead to, when types or terms are put in on both sides.
use Rattle.std.proofs.Common.{◌≡◌, ℕ, zero, suc, ◌<◌, List, [], ◌∷◌, ◌++◌, map, length, ◌∙◌, refl, sym, ap, Option, Some, None}
use Rattle.std.specs.Prelude.{All, option_map}
use Rattle.std.proofs.lemmas.List.Elements.{All-head, All-tail}
use Rattle.lp_calculus.specs.Types.{Ty}
use Rattle.lp_calculus.specs.Term.{Term, index, atom, abs, app, constant, integer, text, eigen, logic, param}
use Rattle.lp_calculus.specs.Convert.{steps, option_term}
use Rattle.lp_calculus.specs.Fill.{Within, Binding, put_all}
use Rattle.lp_calculus.specs.Instance.{instance_term}
use Rattle.lp_calculus.proofs.Steps.{within_reduces}
use Rattle.lp_term.specs.Nodes.{Nodes, Extends}
use Rattle.lp_term.specs.declared.node.TermId.{TermId}
use Rattle.lp_model.specs.Types.{TypeBinding, one_type}
use Rattle.lp_model.specs.Pair.{Pair, Closing, put_pair, put_type_in, put_types_in, type_pair}
use Rattle.lp_model.specs.Unify.{put_pairs, type_pairs_in}
use Rattle.lp_model.specs.declared.answer.Pair.{Pair as Numbers}
use Rattle.lp_model.specs.Look.{weak_step}
use Rattle.lp_unify_laws.proofs.TypeInstances.{instance_substitute}
use Rattle.lp_pattern.specs.Growing.{IsPairOf}
use Rattle.lp_pattern.specs.Pruning.{Known}
use Rattle.lp_pattern.specs.Turning.{IsKnownPair, AreKnownPairs, IsReachedAs, IsPairFor, ArePairsFor}
use Rattle.lp_pattern.specs.Under.{under}
use Rattle.lp_pattern.proofs.PruneSteps.{weak_reduces}
use Rattle.lp_pattern.proofs.Stacks.{under_kept}

-- steps of a term are those of it with types put in
typed_on : (f g h : Term → Term) → ((t : Term) → g (f t) ≡ f (h t)) → (o : Option Term) → option_term g (option_map f o) ≡ option_map f (option_term h o)
typed_on f g h e None = refl
typed_on f g h e (Some t) = ap (λ x. Some x) (e t)

weak_typed : (θ : ℕ → Ty) (t : Term) → weak_step (instance_term θ t) ≡ option_map (instance_term θ) (weak_step t)
weak_typed θ (index i) = refl
weak_typed θ (atom a) = refl
weak_typed θ (abs b) = refl
weak_typed θ (app (abs b) u) = ap (λ x. Some x) (sym (instance_substitute θ u b))
weak_typed θ (app (index i) u) = refl
weak_typed θ (app (atom a) u) = refl
weak_typed θ (app (app t v) u) =
    ap (option_term (λ s. app s (instance_term θ u))) (weak_typed θ (app t v)) ∙ typed_on (instance_term θ) (λ s. app s (instance_term θ u)) (λ s. app s u) (λ s. refl) (weak_step (app t v))

steps_through : (f : Term → Option Term) (g : Term → Term) → ((t : Term) → f (g t) ≡ option_map g (f t)) → (n : ℕ) (t s : Term) → steps f n t ≡ Some s → steps f n (g t) ≡ Some (g s)
steps_through f g h zero t s e = let q : t ≡ s = cc in ap (λ x. Some (g x)) q
steps_through f g h (suc n) t s e = go (f t) refl e (λ u q. steps_through f g h n u s q)
  where
    go : (o : Option Term) → f t ≡ o → (elim o as (λ z. Option Term) [ None ↦ None | Some u ↦ steps f n u ]) ≡ Some s → ((u : Term) → steps f n u ≡ Some s → steps f n (g u) ≡ Some (g s)) →
        steps f (suc n) (g t) ≡ Some (g s)
    go None p q k = absurd (cc)
    go (Some u) p q k = ap (λ (x : Option Term). elim x as (λ z. Option Term) [ None ↦ None | Some y ↦ steps f n y ]) (h t ∙ ap (option_map g) p) ∙ k u q

pub steps_typed : (ts : List TypeBinding) (n : ℕ) (t s : Term) → steps weak_step n t ≡ Some s → steps weak_step n (put_types_in ts t) ≡ Some (put_types_in ts s)
steps_typed [] n t s e = e
steps_typed (b ∷ bs) n t s e = steps_typed bs n (put_type_in b t) (put_type_in b s) (steps_through weak_step (put_type_in b) (weak_typed (one_type b)) n t s e)

-- variables stay as they are
within_typed_one : (lv : ℕ → ℕ) (n d : ℕ) (b : TypeBinding) (t : Term) → Within (Known lv n) d t → Within (Known lv n) d (put_type_in b t)
within_typed_one lv n d b (index i) w = w
within_typed_one lv n d b (atom (constant c ts)) w = tt
within_typed_one lv n d b (atom (integer z)) w = tt
within_typed_one lv n d b (atom (text s)) w = tt
within_typed_one lv n d b (atom (eigen k)) w = tt
within_typed_one lv n d b (atom (logic x l)) w = w
within_typed_one lv n d b (atom (param k t)) w = tt
within_typed_one lv n d b (abs t) w = within_typed_one lv n (suc d) b t w
within_typed_one lv n d b (app t u) w = (within_typed_one lv n d b t w.0, within_typed_one lv n d b u w.1)

pub within_typed_at : (lv : ℕ → ℕ) (n d : ℕ) (ts : List TypeBinding) (t : Term) → Within (Known lv n) d t → Within (Known lv n) d (put_types_in ts t)
within_typed_at lv n d [] t w = w
within_typed_at lv n d (b ∷ bs) t w = within_typed_at lv n d bs (put_type_in b t) (within_typed_one lv n d b t w)

pub within_typed : (lv : ℕ → ℕ) (n : ℕ) (ts : List TypeBinding) (t : Term) → Within (Known lv n) 0 t → Within (Known lv n) 0 (put_types_in ts t)
within_typed lv n ts t w = within_typed_at lv n 0 ts t w

-- what steps lead to has the variables of what they start at
pub within_reached : (lv : ℕ → ℕ) (n j : ℕ) (t s : Term) → steps weak_step j t ≡ Some s → Within (Known lv n) 0 t → Within (Known lv n) 0 s
within_reached lv n j t s e w = within_reduces (Known lv n) 0 (weak_reduces j t s e) w

-- a change of both sides
abbrev pub on_sides : (Term → Term) → Pair → Pair
on_sides f p = record { left = f p.left; right = f p.right; level = p.level }

map_after : (f g : Term → Term) (ps : List Pair) → map (on_sides g) (map (on_sides f) ps) ≡ map (on_sides (λ t. g (f t))) ps
map_after f g [] = refl
map_after f g (p ∷ ps) = ap (λ l. on_sides (λ t. g (f t)) p ∷ l) (map_after f g ps)

map_as_is : (ps : List Pair) → ps ≡ map (on_sides (λ t. t)) ps
map_as_is [] = refl
map_as_is (p ∷ ps) = ap (λ l. p ∷ l) (map_as_is ps)

pub types_on_sides : (ts : List TypeBinding) (ps : List Pair) → type_pairs_in ts ps ≡ map (on_sides (put_types_in ts)) ps
types_on_sides [] ps = map_as_is ps
types_on_sides (b ∷ bs) ps = types_on_sides bs (map (type_pair b) ps) ∙ map_after (put_type_in b) (put_types_in bs) ps

pub terms_on_sides : (bs : List Binding) (ps : List Pair) → put_pairs bs ps ≡ map (on_sides (put_all bs)) ps
terms_on_sides [] ps = map_as_is ps
terms_on_sides (b ∷ bs) ps = terms_on_sides bs (map (put_pair b) ps) ∙ map_after _ (put_all bs) ps

pub all_known : (lv lv' : ℕ → ℕ) (n n' : ℕ) (f : Term → Term) → ((t : Term) → Within (Known lv n) 0 t → Within (Known lv' n') 0 (f t)) → (ps : List Pair) → AreKnownPairs lv n ps → AreKnownPairs lv' n' (map (on_sides f) ps)
all_known lv lv' n n' f h [] k = tt
all_known lv lv' n n' f h (p ∷ ps) k = ((h p.left k.0.0, h p.right k.0.1), all_known lv lv' n n' f h ps k.1)

module _ (b d : Nodes) (c c' : Closing) (lv : ℕ → ℕ) (n : ℕ) (f : Term → Term) (reaches : (t u : Term) → (j : ℕ) → Within (Known lv n) 0 t → steps weak_step j t ≡ Some u → steps weak_step j (f t) ≡ Some (f u))
    (puts : (t : TermId) → t.0 < length b.terms → Within (Known lv n) 0 (under b c t) → under d c' t ≡ f (under b c t)) where
  reached_through : (t : TermId) (u : Term) → t.0 < length b.terms → Within (Known lv n) 0 u → IsReachedAs b c t u → IsReachedAs d c' t (f u)
  reached_through t u l w r = (r.0, reaches u (under b c t) r.0 w r.1 ∙ ap (λ x. Some x) (sym (puts t l (within_reached lv n r.0 u (under b c t) r.1 w))))

  pub pair_through : (q : Numbers) (p : Pair) → IsPairOf (length b.terms) q → IsKnownPair lv n p → IsPairFor b c q p → IsPairFor d c' q (on_sides f p)
  pair_through q p l k r = record { stands = r.stands; left = reached_through q.left p.left l.0 k.0 r.left; right = reached_through q.right p.right l.1 k.1 r.right }

  pub pairs_through : (qs : List Numbers) (ps : List Pair) → All (IsPairOf (length b.terms)) qs → AreKnownPairs lv n ps → ArePairsFor b c qs ps → ArePairsFor d c' qs (map (on_sides f) ps)
  pairs_through [] [] l k r = tt
  pairs_through [] (p ∷ ps) l k r = absurd r
  pairs_through (q ∷ qs) [] l k r = absurd r
  pairs_through (q ∷ qs) (p ∷ ps) l k r =
      (pair_through q p (All-head (IsPairOf (length b.terms)) q qs l) k.0 r.0, pairs_through qs ps (All-tail (IsPairOf (length b.terms)) q qs l) k.1 r.1)

-- a bank that has grown
kept_as : (b d : Nodes) (c : Closing) (t : TermId) (u : Term) → Extends b d → t.0 < length b.terms → IsReachedAs b c t u → IsReachedAs d c t u
kept_as b d c t u e l r = (r.0, r.1 ∙ ap (λ x. Some x) (sym (under_kept b d c t e l)))

pub pair_stays : (b d : Nodes) (c : Closing) (q : Numbers) (p : Pair) → Extends b d → IsPairOf (length b.terms) q → IsPairFor b c q p → IsPairFor d c q p
pair_stays b d c q p e l r = record { stands = r.stands; left = kept_as b d c q.left p.left e l.0 r.left; right = kept_as b d c q.right p.right e l.1 r.right }

pub pairs_stay : (b d : Nodes) (c : Closing) (qs : List Numbers) (ps : List Pair) → Extends b d → All (IsPairOf (length b.terms)) qs → ArePairsFor b c qs ps → ArePairsFor d c qs ps
pairs_stay b d c [] [] e l r = tt
pairs_stay b d c [] (p ∷ ps) e l r = absurd r
pairs_stay b d c (q ∷ qs) [] e l r = absurd r
pairs_stay b d c (q ∷ qs) (p ∷ ps) e l r =
    (pair_stays b d c q p e (All-head (IsPairOf (length b.terms)) q qs l) r.0, pairs_stay b d c qs ps e (All-tail (IsPairOf (length b.terms)) q qs l) r.1)

pub pairs_behind : (b : Nodes) (c : Closing) (qs qs' : List Numbers) (ps ps' : List Pair) → ArePairsFor b c qs ps → ArePairsFor b c qs' ps' → ArePairsFor b c (qs ++ qs') (ps ++ ps')
pairs_behind b c [] qs' [] ps' r s = s
pairs_behind b c [] qs' (p ∷ ps) ps' r s = absurd r
pairs_behind b c (q ∷ qs) qs' [] ps' r s = absurd r
pairs_behind b c (q ∷ qs) qs' (p ∷ ps) ps' r s = (r.0, pairs_behind b c qs qs' ps ps' r.1 s)

pub known_behind : (lv : ℕ → ℕ) (n : ℕ) (ps ps' : List Pair) → AreKnownPairs lv n ps → AreKnownPairs lv n ps' → AreKnownPairs lv n (ps ++ ps')
known_behind lv n [] ps' k m = m
known_behind lv n (p ∷ ps) ps' k m = (k.0, known_behind lv n ps ps' k.1 m)
