-- The piece of a head on arguments.
use Rattle.std.proofs.Common.{◌≡◌, ℕ, zero, suc, ◌+◌, ◌*◌, ◌<◌, ◌≤◌, List, [], ◌∷◌, ◌++◌, Bool, true, false, length, map, reverse, length-append, Option, Some, None, refl, sym, ap, ◌∙◌, arith, append_assoc}
use Rattle.std.specs.Prelude.{nat_eq, if◌then◌else◌, option_and_then, unwrap_or, codes}
use Rattle.std.proofs.lemmas.List.{reverse-append}
use Rattle.lp_standard.specs.declared.fixity.Fixity.{Fixity}
use Rattle.lp_calculus.specs.Term.{Term, index, atom, abs, app, apply, constant, integer, text, eigen, logic, param}
use Rattle.lp_term.specs.Nodes.{Nodes, tree}
use Rattle.lp_term.specs.Walk.{trees, size, sizes}
use Rattle.lp_term.specs.Facts.{IsNoAbstraction}
use Rattle.lp_term.specs.declared.node.TermId.{TermId}
use Rattle.lp_model.specs.Shown.{Entry, Piece, Shape, applied, bracketed, constant_piece, constant_text, entry_in, headed, operated, piece}
use Rattle.lp_show.specs.Operators.{of_entry, of_head}
use Rattle.lp_show.specs.Scene.{Scene, head_text, head_weight, piece_of, piece_at, pieces}
use Rattle.lp_show.specs.Spines.{IsNoApplication}
use Rattle.lp_show.specs.declared.place.Place.{Place}
use Rattle.lp_show.specs.Places.{placed}

module _ (es : List Entry) (vs : List ℕ) (d : ℕ) where
  headed_more : (t u : Term) (us : List Term) → piece es vs d (apply (app t u) us) ≡ headed es vs d (app t u) (map (piece es vs d) us)
  headed_more t u [] = refl
  headed_more t u (x ∷ us) = headed_more (app t u) x us

applied_or : (b : Bool) (o : Option Piece) (p : Piece) → (if b then unwrap_or o p else p) ≡ unwrap_or (if b then o else None) p
applied_or true o p = refl
applied_or false o p = refl

constant_form : (e : Entry) (ps : List Piece) → constant_piece e ps ≡ unwrap_or (of_entry e ps) (applied (constant_text e) ps)
constant_form e ps = applied_or (nat_eq e.hidden 0) (option_and_then (λ x. operated x.0 x.1 e.name ps) e.fixity) (applied (constant_text e) ps)

head_form : (s : Scene) (d : ℕ) (h : Term) (ps : List Piece) → IsNoApplication h → headed s.entries s.variables d h ps ≡ unwrap_or (of_head s.entries h ps) (applied (head_text s d h) ps)
head_form s d (index i) ps a = refl
head_form s d (atom (constant c ts)) ps a = constant_form (entry_in s.entries c) ps
head_form s d (atom (integer z)) ps a = refl
head_form s d (atom (text b)) ps a = refl
head_form s d (atom (eigen k)) ps a = refl
head_form s d (atom (logic x l)) ps a = refl
head_form s d (atom (param k t)) ps a = refl
head_form s d (abs b) ps a = refl
head_form s d (app t u) ps a = absurd a

bare_form : (s : Scene) (d : ℕ) (h : Term) → IsNoApplication h → IsNoAbstraction h → piece_of s d h ≡ unwrap_or (of_head s.entries h []) (applied (head_text s d h) [])
bare_form s d (index i) a b = refl
bare_form s d (atom x) a b = head_form s d (atom x) [] tt
bare_form s d (abs t) a b = absurd b
bare_form s d (app t u) a b = absurd a

-- a head on arguments is shown as an operator form, or else as the head and the arguments behind it
pub spine_form : (s : Scene) (d : ℕ) (h : Term) (us : List Term) → IsNoApplication h → (us ≡ [] → IsNoAbstraction h) →
    piece_of s d (apply h us) ≡ unwrap_or (of_head s.entries h (map (piece_of s d) us)) (applied (head_text s d h) (map (piece_of s d) us))
spine_form s d h [] a b = bare_form s d h a (b refl)
spine_form s d h (u ∷ us) a b = headed_more s.entries s.variables d h u us ∙ head_form s d h (map (piece_of s d) (u ∷ us)) a

-- sizes
abbrev pub total : List Term → ℕ
total [] = 0
total (t ∷ ts) = size t + total ts

total_append : (xs ys : List Term) → total (xs ++ ys) ≡ total xs + total ys
total_append [] ys = omega arith
total_append (x ∷ xs) ys = omega (arith, total_append xs ys)

size_total : (h : Term) (us : List Term) → size (apply h us) ≡ size h + length us + total us
size_total h [] = omega arith
size_total h (u ∷ us) = omega (arith, size_total (app h u) us)

total_reverse : (xs : List Term) → (total (reverse xs) ≡ total xs) × (length (reverse xs) ≡ length xs)
total_reverse [] = (refl, refl)
total_reverse (x ∷ xs) = (
  ap total (reverse-append (x ∷ []) xs) ∙ total_append (reverse xs) (x ∷ []) ∙ omega (arith, (total_reverse xs).0),
  ap length (reverse-append (x ∷ []) xs) ∙ length-append (reverse xs) (x ∷ []) ∙ omega (arith, (total_reverse xs).1),
)

total_sizes : (b : Nodes) (ids : List TermId) → (total (map (λ t. tree b t.0) ids) ≡ sizes b ids) × (length (map (λ t. tree b t.0) ids) ≡ length ids)
total_sizes b [] = (refl, refl)
total_sizes b (t ∷ ids) = (ap (λ n. size (tree b t.0) + n) (total_sizes b ids).0, ap suc (total_sizes b ids).1)

pub size_spine : (b : Nodes) (h : Term) (ids : List TermId) → size (apply h (trees b ids)) ≡ size h + length ids + sizes b ids
size_spine b h ids =
    let m = map (λ t. tree b t.0) ids in
    omega (arith, size_total h (trees b ids), (total_reverse m).0, (total_reverse m).1, (total_sizes b ids).0, (total_sizes b ids).1)

pub size_some : (t : Term) → 0 < size t
size_some (index i) = omega arith
size_some (atom a) = omega arith
size_some (abs b) = omega arith
size_some (app t u) = omega arith

pub head_light : (t : Term) → IsNoApplication t → head_weight t + 4 ≤ 6 * size t
head_light (index i) a = omega arith
head_light (atom x) a = omega arith
head_light (abs b) a = omega arith
head_light (app t u) a = absurd a

pub trees_nil : (b : Nodes) (ids : List TermId) → trees b ids ≡ [] → ids ≡ []
trees_nil b [] e = refl
trees_nil b (t ∷ ids) e =
    let m = map (λ t. tree b t.0) (t ∷ ids) in
    absurd (omega (arith, ap length e, (total_reverse m).1, (total_sizes b (t ∷ ids)).1))

-- where a constant has a fixity and not the operands, it has no operator form
pub no_operation : (e : Entry) (f : Fixity) (n : ℕ) (ps : List Piece) → e.fixity ≡ Some (f, n) → operated f n e.name ps ≡ None → of_entry e ps ≡ None
no_operation e f n ps q h = go (nat_eq e.hidden 0) (option_and_then (λ x. operated x.0 x.1 e.name ps) e.fixity) (ap (option_and_then (λ x. operated x.0 x.1 e.name ps)) q ∙ h)
  where
    go : (b : Bool) (o : Option Piece) → o ≡ None → (if b then o else None) ≡ None
    go true o e = e
    go false o e = refl
