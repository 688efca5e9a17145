-- Terms by their heads and arguments, as they are seen and as they are gathered.
use Rattle.std.proofs.Common.{◌≡◌, ℕ, List, [], ◌++◌, length, map, reverse, refl, sym, ap, ◌∙◌, subst, None}
use Rattle.std.proofs.lemmas.List.{map-append, reverse-append, reverse-reverse}
use Rattle.lp_calculus.specs.Term.{Term, apply}
use Rattle.lp_calculus.specs.Convert.{head_step, Reduces, done}
use Rattle.lp_calculus.proofs.Applied.{apply_append}
use Rattle.lp_calculus.proofs.Confluent.{reduces_on}
use Rattle.lp_store.specs.declared.cell.Cell.{Cell}
use Rattle.lp_store.specs.declared.cell.Cell.TheVariants.{TypeVar, TypeCon, TypeArrow, Ref, Const, Int, Text, Eigen, Logic, Index, Abs, App, Susp}
use Rattle.lp_store.specs.declared.cell.CellId.{CellId}
use Rattle.lp_store.specs.declared.cell.Span.{Span}
use Rattle.lp_store.specs.Contents.{Contents, cell_at, span}
use Rattle.lp_store.specs.Change.{with_items}
use Rattle.lp_store.specs.Reading.{Reads, ReadAll, none, more}
use Rattle.lp_susp.specs.Kept.{IsExposed}
use Rattle.lp_susp.specs.Route.{RefsTo}
use Rattle.lp_susp.proofs.Chains.{app_parts, span_made}
use Rattle.lp_susp.proofs.Heads.{none-head}
use Rattle.lp_susp.proofs.Routes.{refs_read}
use Rattle.lp_susp.proofs.Spines.{IsLeaf, leaf_head}
use Rattle.lp_goal.specs.declared.spine.Spine.{Spine}
use Rattle.lp_goal.specs.Spines.{IsTop, IsHeadCell, IsSpineOf, numbers, argument_cells}

head_leaf : (c : Cell) → IsHeadCell c → IsLeaf c
head_leaf (Const x l) h = tt
head_leaf (Int x) h = tt
head_leaf (Text x) h = tt
head_leaf (Eigen x) h = tt
head_leaf (Logic x) h = tt
head_leaf _ h = absurd h

pub head_top : (c d : Cell) → c ≡ d → IsHeadCell c → IsTop d
head_top c d e h = subst IsTop e (top c h)
  where
    top : (x : Cell) → IsHeadCell x → IsTop x
    top (Const x l) k = tt
    top (Int x) k = tt
    top (Text x) k = tt
    top (Eigen x) k = tt
    top (Logic x) k = tt
    top _ k = absurd k

-- what is exposed and no application
pub exposed_top : (c d : Cell) → c ≡ d → IsExposed d → ((f : CellId) (l : Span) → c ≡ App f l → ⊥) → IsTop d
exposed_top c (Ref to) e x n = x
exposed_top c (Susp b o l v) e x n = x
exposed_top c (App f l) e x n = n f l e
exposed_top c (Abs b) e x n = tt
exposed_top c TypeVar e x n = tt
exposed_top c (TypeCon b l) e x n = tt
exposed_top c (TypeArrow b l) e x n = tt
exposed_top c (Const b l) e x n = tt
exposed_top c (Int b) e x n = tt
exposed_top c (Text b) e x n = tt
exposed_top c (Eigen b) e x n = tt
exposed_top c (Logic b) e x n = tt
exposed_top c (Index b) e x n = tt

same_reduces : (t u : Term) → t ≡ u → Reduces t u
same_reduces t u e = subst (Reduces t) e (done t)

-- a term that is a head
pub seen_alone : (s : Contents) (term : ℕ) (x : Spine) (c : Cell) → RefsTo s term x.head.0 → c ≡ cell_at s x.head.0 → IsHeadCell c → argument_cells s x.arguments ≡ [] → (t : Term) → Reads s term t → IsSpineOf s x t
seen_alone s term x c r e h n t p = record {
  head = t;
  arguments = [];
  reduces = done t;
  normal = none-head t [] (leaf_head s x.head.0 c t (head_leaf c h) (sym e) (refs_read r p));
  reads = refs_read r p;
  read_all = subst (λ is. ReadAll s is []) (sym n) none;
}

-- a head on arguments
pub seen_applied : (s : Contents) (term at : ℕ) (x : Spine) (f : CellId) (l : Span) (c : Cell) → RefsTo s term at → App f l ≡ cell_at s at → RefsTo s f.0 x.head.0 → c ≡ cell_at s x.head.0 → IsHeadCell c →
    argument_cells s x.arguments ≡ map (λ t. t.0) (span s.items l.from l.count) → (t : Term) → Reads s term t → IsSpineOf s x t
seen_applied s term at x f l c r q r2 e h n t p =
    let k = app_parts s at f l t (sym q) (refs_read r p) in
    record {
      head = k.0;
      arguments = k.1;
      reduces = same_reduces t (apply k.0 k.1) k.4;
      normal = none-head k.0 k.1 (leaf_head s x.head.0 c k.0 (head_leaf c h) (sym e) (refs_read r2 k.2));
      reads = refs_read r2 k.2;
      read_all = subst (λ is. ReadAll s is k.1) (sym n) k.3;
    }

pub read_all_on : {s z : Contents} → ((i : ℕ) (t : Term) → Reads s i t → Reads z i t) → {is : List ℕ} {ts : List Term} → ReadAll s is ts → ReadAll z is ts
read_all_on f none = none
read_all_on f (more {i} {t} r q) = more (f i t r) (read_all_on f q)

read_both : {s : Contents} {is js : List ℕ} {ts us : List Term} → ReadAll s is ts → ReadAll s js us → ReadAll s (is ++ js) (ts ++ us)
read_both none q = q
read_both (more r p) q = more r (read_both p q)

-- a head, and the arguments that were gathered above it, the innermost first
pub record Gathered (s : Contents) (at : ℕ) (cells : List CellId) (t : Term) : Type 0 where
  pub head : Term
  pub arguments : List Term
  pub is : t ≡ apply head arguments
  pub reads : Reads s at head
  pub read_all : ReadAll s (map (λ c. c.0) (reverse cells)) arguments

pub gathered_first : (s : Contents) (at : ℕ) (cells : List CellId) → cells ≡ [] → (t : Term) → Reads s at t → Gathered s at cells t
gathered_first s at cells e t p = record { head = t; arguments = []; is = refl; reads = p; read_all = subst (λ l. ReadAll s (map (λ c. c.0) (reverse l)) []) (sym e) none }

pub gathered_on : (s z : Contents) (at to : ℕ) (cells : List CellId) → ((i : ℕ) (t : Term) → Reads s i t → Reads z i t) → ((t : Term) → Reads s at t → Reads z to t) → (t : Term) → Gathered s at cells t → Gathered z to cells t
gathered_on s z at to cells f g t k = record { head = k.head; arguments = k.arguments; is = k.is; reads = g k.head k.reads; read_all = read_all_on f k.read_all }

pub gathered_more : (s : Contents) (at : ℕ) (f : CellId) (l : Span) (old new more : List CellId) → App f l ≡ cell_at s at → more ≡ span s.items l.from l.count → new ≡ old ++ reverse more → (t : Term) → Gathered s at old t → Gathered s f.0 new t
gathered_more s at f l old new ids q m n t k =
    let a = app_parts s at f l k.head (sym q) k.reads in
    let r : reverse new ≡ ids ++ reverse old = ap reverse n ∙ reverse-append old (reverse ids) ∙ ap (λ y. y ++ reverse old) (reverse-reverse ids) in
    record {
      head = a.0;
      arguments = a.1 ++ k.arguments;
      is = k.is ∙ ap (λ h. apply h k.arguments) a.4 ∙ sym (apply_append a.0 a.1 k.arguments);
      reads = a.2;
      read_all = subst (λ y. ReadAll s (map (λ c. c.0) y) (a.1 ++ k.arguments)) (sym r)
          (subst (λ y. ReadAll s y (a.1 ++ k.arguments)) (sym (map-append (λ c. c.0) ids (reverse old))) (read_both (subst (λ y. ReadAll s (map (λ c. c.0) y) a.1) (sym m) a.3) k.read_all));
    }

pub gathered_spine : (s z : Contents) (x : Spine) (cells : List CellId) → ((i : ℕ) (t : Term) → Reads s i t → Reads z i t) → argument_cells z x.arguments ≡ map (λ c. c.0) (reverse cells) →
    (t : Term) → head_step t ≡ None → Gathered s x.head.0 cells t → IsSpineOf z x t
gathered_spine s z x cells f n t h k = record {
  head = k.head;
  arguments = k.arguments;
  reduces = same_reduces t (apply k.head k.arguments) k.is;
  normal = ap head_step (sym k.is) ∙ h;
  reads = f x.head.0 k.head k.reads;
  read_all = subst (λ y. ReadAll z y k.arguments) (sym n) (read_all_on f k.read_all);
}

-- a spine of what the term reduces to
pub spine_above : (s : Contents) (x : Spine) (t u : Term) → Reduces t u → IsSpineOf s x u → IsSpineOf s x t
spine_above s x t u r k = record { head = k.head; arguments = k.arguments; reduces = reduces_on r k.reduces; normal = k.normal; reads = k.reads; read_all = k.read_all }

-- a list that is put
pub list_made : (s z : Contents) (l : Span) (xs ys : List CellId) → z ≡ with_items s xs → l.from ≡ length s.items → l.count ≡ length xs → xs ≡ ys → numbers z l ≡ map (λ t. t.0) ys
list_made s z l xs ys e f n q = ap (map (λ t. t.0)) (ap (λ y. span y.items l.from l.count) e ∙ span_made s.items xs l.from l.count f n ∙ q)
