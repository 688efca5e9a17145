-- What is still to be written, piece by piece.
use Rattle.std.proofs.Common.{◌≡◌, ℕ, zero, suc, ◌+◌, ◌*◌, ◌<◌, ◌≤◌, List, [], ◌∷◌, ◌++◌, Bool, true, false, length, map, take, get_or, refl, sym, ap, ◌∙◌, subst, arith, append_assoc, append-nil, add-one}
use Rattle.std.specs.Prelude.{All, codes, if◌then◌else◌}
use Rattle.std.proofs.lemmas.List.{take_more}
use Rattle.std.proofs.lemmas.List.Elements.{All-push, All-head, All-nil}
use Rattle.lp_term.specs.Nodes.{tree}
use Rattle.lp_term.specs.Walk.{size, sizes, trees}
use Rattle.lp_term.specs.declared.node.TermId.{TermId}
use Rattle.lp_term.proofs.Walks.{All-front, All-back, trees-push}
use Rattle.lp_model.specs.Shown.{Piece, applied, arguments_text, binder_name, bracketed}
use Rattle.lp_show.specs.declared.task.Task.{Task}
use Rattle.lp_show.specs.declared.task.Task.TheVariants.{Show, Bytes}
use Rattle.lp_standard.specs.declared.fixity.Fixity.{Fixity}
use Rattle.lp_show.specs.declared.operator.Operands.{Operands}
use Rattle.lp_show.specs.declared.operator.Operands.TheVariants.{Before, Both}
use Rattle.lp_show.specs.Operators.{operands_size, operands_text}
use Rattle.lp_show.specs.declared.place.Top.{Top}
use Rattle.lp_show.specs.declared.place.Place.{Place}
use Rattle.lp_show.specs.declared.place.Place.TheVariants.{Alone, Argument, Left, Right}
use Rattle.lp_show.specs.Places.{placed, shape_of, standing}
use Rattle.lp_show.specs.Scene.{Scene, abstraction_text, piece_at, piece_of, pieces}
use Rattle.lp_show.specs.Tasks.{Adds, AreWithin, IsWithin, Writes, rest, task_text, task_weight, weight}

rest_push : (s : Scene) (ts : List Task) (t : Task) → rest s (ts ++ t ∷ []) ≡ task_text s t ++ rest s ts
rest_push s [] t = sym (append-nil (task_text s t))
rest_push s (u ∷ ts) t = ap (λ l. l ++ task_text s u) (rest_push s ts t) ∙ append_assoc (task_text s t) (rest s ts) (task_text s u)

weight_push : (s : Scene) (ts : List Task) (t : Task) → weight s (ts ++ t ∷ []) ≡ task_weight s t + weight s ts
weight_push s [] t = refl
weight_push s (u ∷ ts) t = omega (arith, weight_push s ts t)

module _ (s : Scene) where
  pub pushed : (old new : List Task) (t : Task) → new ≡ old ++ t ∷ [] → IsWithin s t → Adds s old new (task_text s t) (task_weight s t)
  pushed old new t q w = record {
    text = ap (rest s) q ∙ rest_push s old t;
    weight = omega (arith, ap (weight s) q, weight_push s old t);
    within = λ a. subst (AreWithin s) (sym q) (All-push (IsWithin s) old t a w);
  }

  pub adds_none : (old : List Task) (n : ℕ) → Adds s old old [] n
  adds_none old n = record { text = refl; weight = omega arith; within = λ a. a }

  pub adds_both : (a b c : List Task) (x y : List ℕ) (m n : ℕ) → Adds s a b x m → Adds s b c y n → Adds s a c (y ++ x) (n + m)
  adds_both a b c x y m n f g = record {
    text = g.text ∙ ap (λ l. y ++ l) f.text ∙ sym (append_assoc y x (rest s a));
    weight = omega (arith, f.weight, g.weight);
    within = λ h. g.within (f.within h);
  }

  pub adds_as : (a b : List Task) (x y : List ℕ) (m n : ℕ) → Adds s a b x m → x ≡ y → m ≤ n → Adds s a b y n
  adds_as a b x y m n f e l = record {
    text = f.text ∙ ap (λ z. z ++ rest s a) e;
    weight = omega (arith, f.weight, l);
    within = f.within;
  }

  -- a part is written, and the other part is to be written
  pub written : (out now : List ℕ) (old new : List Task) (x y z : List ℕ) (m n : ℕ) → now ≡ out ++ x → Adds s old new y m → AreWithin s old → x ++ y ≡ z → m < n → Writes s out old now new z n
  written out now old new x y z m n q f a e l = record {
    text = ap (λ o. o ++ rest s new) q ∙ ap (λ r. (out ++ x) ++ r) f.text ∙ around out x y (rest s old) ∙ ap (λ t. out ++ (t ++ rest s old)) e;
    weight = omega (arith, f.weight);
    within = f.within a;
  }
    where
      around : (a b c d : List ℕ) → (a ++ b) ++ (c ++ d) ≡ a ++ ((b ++ c) ++ d)
      around a b c d = simp append_assoc

  -- more is written behind a part that is written and before one that is to be written
  pub written_between : (out mid now : List ℕ) (old more new : List Task) (x h y z : List ℕ) (m k n : ℕ) → mid ≡ out ++ x → Adds s old more y m → Writes s mid more now new h k → x ++ (h ++ y) ≡ z → k + m ≤ n →
      Writes s out old now new z n
  written_between out mid now old more new x h y z m k n q f w e l = record {
    text = w.text ∙ ap (λ r. mid ++ (h ++ r)) f.text ∙ ap (λ o. o ++ (h ++ (y ++ rest s old))) q ∙ around out x h y (rest s old) ∙ ap (λ t. out ++ (t ++ rest s old)) e;
    weight = omega (arith, f.weight, w.weight);
    within = w.within;
  }
    where
      around : (a b c d e : List ℕ) → (a ++ b) ++ (c ++ (d ++ e)) ≡ a ++ ((b ++ (c ++ d)) ++ e)
      around a b c d e = simp append_assoc

  pub writes_as : (out now : List ℕ) (old new : List Task) (x z : List ℕ) (k n : ℕ) → Writes s out old now new x k → x ≡ z → k ≤ n → Writes s out old now new z n
  writes_as out now old new x z k n w e l = record {
    text = w.text ∙ ap (λ t. out ++ (t ++ rest s old)) e;
    weight = omega (arith, w.weight);
    within = w.within;
  }

  pub body_written : (out mid now : List ℕ) (old new : List Task) (d : ℕ) (b : TermId) → mid ≡ out ++ binder_name s.entries d → now ≡ mid ++ codes "\\ " → Adds s old new (placed Alone (piece_at s (d + 1) b.0)) (6 * size (tree s.nodes b.0)) →
      AreWithin s old → Writes s out old now new (abstraction_text s d b.0) (1 + 6 * size (tree s.nodes b.0))
  body_written out mid now old new d b e f a w =
      let name = binder_name s.entries d in
      written out now old new (name ++ codes "\\ ") (piece_at s (d + 1) b.0).text (abstraction_text s d b.0) (6 * size (tree s.nodes b.0)) (1 + 6 * size (tree s.nodes b.0))
      (f ∙ ap (λ o. o ++ codes "\\ ") e ∙ append_assoc out name (codes "\\ ")) a w
      (append_assoc name (codes "\\ ") (piece_at s (d + 1) b.0).text ∙ ap (λ k. name ++ (codes "\\ " ++ (piece_at s k b.0).text)) (add-one d)) (omega arith)

  module _ (d : ℕ) (f : Fixity) (n : ℕ) (name : List ℕ) (o : Operands) (out : List ℕ) where
    pub before_written : (a : TermId) (t0 t1 t2 t3 : List Task) → o ≡ Before a → Adds s t0 t1 name 1 → Adds s t1 t2 (codes " ") 1 → Adds s t2 t3 (placed (Left f n) (piece_at s d a.0)) (6 * size (tree s.nodes a.0)) → AreWithin s t0 →
        Writes s out t0 out t3 (operands_text s d f n name o) (4 + 6 * operands_size s o)
    before_written a t0 t1 t2 t3 q x y z w =
        let both = adds_both t0 t2 t3 _ _ _ _ (adds_both t0 t1 t2 _ _ _ _ x y) z in
        written out out t0 t3 [] _ _ _ _ (sym (append-nil out)) both w (ap (operands_text s d f n name) (sym q)) (omega (arith, ap (operands_size s) q))

    pub both_written : (a b : TermId) (t0 t1 t2 t3 t4 t5 : List Task) → o ≡ Both a b → Adds s t0 t1 (placed (Right f n) (piece_at s d b.0)) (6 * size (tree s.nodes b.0)) → Adds s t1 t2 (codes " ") 1 → Adds s t2 t3 name 1 → Adds s t3 t4 (codes " ") 1 →
        Adds s t4 t5 (placed (Left f n) (piece_at s d a.0)) (6 * size (tree s.nodes a.0)) → AreWithin s t0 → Writes s out t0 out t5 (operands_text s d f n name o) (4 + 6 * operands_size s o)
    both_written a b t0 t1 t2 t3 t4 t5 q u v x y z w =
        let both = adds_both t0 t4 t5 _ _ _ _ (adds_both t0 t3 t4 _ _ _ _ (adds_both t0 t2 t3 _ _ _ _ (adds_both t0 t1 t2 _ _ _ _ u v) x) y) z in
        written out out t0 t5 [] _ _ _ _ (sym (append-nil out)) both w (ap (operands_text s d f n name) (sym q)) (omega (arith, ap (operands_size s) q))

  -- one argument more
  pub argument_more : (ids : List TermId) (i : ℕ) (t : TermId) (d : ℕ) (first old mid new : List Task) (space : List ℕ) → i < length ids → get_or ids i t ≡ t → space ≡ codes " " →
      Adds s first old (arguments_text (pieces s d (take i ids))) (i + 6 * sizes s.nodes (take i ids)) →
      Adds s old mid (placed Argument (piece_at s d t.0)) (6 * size (tree s.nodes t.0)) → Adds s mid new space 1 →
      Adds s first new (arguments_text (pieces s d (take (i + 1) ids))) (i + 1 + 6 * sizes s.nodes (take (i + 1) ids))
  argument_more ids i t d first old mid new space l g sp f a b =
      let q : take (i + 1) ids ≡ take i ids ++ t ∷ [] = take_more ids i t l ∙ ap (λ u. take i ids ++ u ∷ []) g in
      let both = adds_both first mid new _ space _ 1 (adds_both first old mid _ _ _ _ f a) b in
      adds_as first new _ _ _ _ both
      (ap (λ c. c ++ (placed Argument (piece_at s d t.0) ++ arguments_text (pieces s d (take i ids)))) sp ∙ ap (λ ts. arguments_text (map (piece_of s d) ts)) (sym (ap (trees s.nodes) q ∙ trees-push s.nodes (take i ids) t)))
      (omega (arith, ap (sizes s.nodes) q, sizes_push (take i ids)))
    where
      sizes_push : (xs : List TermId) → sizes s.nodes (xs ++ t ∷ []) ≡ sizes s.nodes xs + size (tree s.nodes t.0)
      sizes_push [] = omega arith
      sizes_push (x ∷ xs) = omega (arith, sizes_push xs)

  -- the next of what is to be written
  pub next_within : (old left : List Task) (t : Task) → old ≡ left ++ t ∷ [] → AreWithin s old → IsWithin s t × AreWithin s left
  next_within old left t q a =
      let b = subst (AreWithin s) q a in
      (All-head (IsWithin s) t [] (All-back (IsWithin s) left (t ∷ []) b), All-front (IsWithin s) left (t ∷ []) b)

  pub next_text : (old left : List Task) (t : Task) (out now : List ℕ) (new : List Task) (all : List ℕ) → old ≡ left ++ t ∷ [] → Writes s out left now new (task_text s t) (task_weight s t) → out ++ rest s old ≡ all → now ++ rest s new ≡ all
  next_text old left t out now new all q w e = w.text ∙ ap (λ r. out ++ r) (sym (ap (rest s) q ∙ rest_push s left t)) ∙ e

  pub next_weight : (old left : List Task) (t : Task) (out now : List ℕ) (new : List Task) → old ≡ left ++ t ∷ [] → Writes s out left now new (task_text s t) (task_weight s t) → weight s new < weight s old
  next_weight old left t out now new q w = omega (arith, w.weight, ap (weight s) q, weight_push s left t)

-- a text with parentheses, where they are wanted
pub enclosed : (w : Bool) (s : List ℕ) → (if w then codes "(" else []) ++ (s ++ (if w then codes ")" else [])) ≡ (if w then bracketed s else s)
enclosed true s = refl
enclosed false s = append-nil s

applied_text : (h : List ℕ) (ps : List Piece) → h ++ arguments_text ps ≡ (applied h ps).text
applied_text h [] = append-nil h
applied_text h (p ∷ ps) = refl

-- a head with its arguments, with parentheses where they are wanted
pub applied_placed : (place : Place) (top : Top) (w : Bool) (h : List ℕ) (ps : List Piece) → shape_of top ≡ (applied h ps).shape → ((s : List ℕ) → standing place (shape_of top) s ≡ (if w then bracketed s else s)) →
    (if w then codes "(" else []) ++ (h ++ (arguments_text ps ++ (if w then codes ")" else []))) ≡ placed place (applied h ps)
applied_placed place top w h ps e f =
    ap (λ t. (if w then codes "(" else []) ++ t) (sym (append_assoc h (arguments_text ps) (if w then codes ")" else []))) ∙ enclosed w (h ++ arguments_text ps) ∙ sym (f (h ++ arguments_text ps)) ∙
    ap (λ x. standing place x (h ++ arguments_text ps)) e ∙ ap (standing place (applied h ps).shape) (applied_text h ps)
