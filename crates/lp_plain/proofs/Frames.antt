-- Goals that are put in front of others, as entries of the definition.
use Rattle.std.proofs.Common.{◌≡◌, ℕ, suc, ◌<◌, ◌≤◌, List, [], ◌∷◌, ◌++◌, length, take, inl, inr, refl, sym, ap, ◌∙◌, subst, arith, Option, Some, None}
use Rattle.std.specs.Prelude.{◌⊎◌, slice_get}
use Rattle.std.proofs.Math.Seq.{take-append_seam}
use Rattle.std.proofs.lemmas.List.{take-append-le, take_all}
use Rattle.std.proofs.lemmas.Option.{slice_get_within}
use Rattle.lp_lemmas.proofs.Lists.{get_append, get_push}
use Rattle.lp_calculus.specs.Term.{Term}
use Rattle.lp_term.specs.Nodes.{Nodes}
use Rattle.lp_model.specs.Branch.{Entry, Branch, Go}
use Rattle.lp_model.specs.Search.{with_goals}
use Rattle.lp_model.specs.Flat.{Goal, Goals, no_goals, goals, goal_list}
use Rattle.lp_pattern.specs.Growing.{GoesOn}
use Rattle.lp_pattern.proofs.Keeps.{goes_on_then}
use Rattle.lp_plain.specs.declared.choice.Choice.{Choice}
use Rattle.lp_plain.specs.declared.choice.Untried.{Untried}
use Rattle.lp_plain.specs.declared.frame.Frame.{Frame}
use Rattle.lp_plain.specs.declared.frame.Place.{Place}
use Rattle.lp_plain.specs.declared.frame.Todo.{Todo}
use Rattle.lp_plain.specs.declared.machine.Machine.{Machine}
use Rattle.lp_plain.specs.declared.table.Span.{Span}
use Rattle.lp_plain.specs.Entries.{Around, AreEntries, no_frame, a_frame, AreTodo, IsAt, IsListAt, IsOf, AreTasks, HasAlternative, KeepsGoals, Reads, in_scope, placed}
use Rattle.lp_plain.specs.Scopes.{Blocks, blocks_of, blocks_at, block_count, value_count}
use Rattle.lp_plain.specs.Tables.{Shown, shown, AreGoals, IsListOf, Never}

module _ (b : Nodes) (t : Shown) (s : Blocks) (a : Around) where
  pub frames_more : (fs more : List Frame) {o : Option ℕ} {es : List Entry} → AreEntries b t s a fs o es → AreEntries b t s a (fs ++ more) o es
  frames_more fs more (no_frame e z) = no_frame e z
  frames_more fs more (a_frame i f gs rest e g h k z) =
      let l = slice_get_within fs i f g in
      a_frame i f gs rest e (get_append fs more i f g) h (subst (λ l. AreEntries b t s a l f.behind rest) (sym (take-append-le i fs more (omega (arith, l)))) k) z

  -- a frame in front
  pub frame_put : (fs gs : List Frame) (f : Frame) (hs : List Goal) (es : List Entry) → gs ≡ fs ++ f ∷ [] → AreTodo b t s f.place f.todo hs →
      AreEntries b t s a fs f.behind es → AreEntries b t s a gs (Some (length fs)) (placed a f.place hs ++ es)
  frame_put fs gs f hs es e h k =
      subst (λ l. AreEntries b t s a l (Some (length fs)) (placed a f.place hs ++ es)) (sym e)
      (a_frame (length fs) f hs es refl (get_push fs f) h (subst (λ l. AreEntries b t s a l f.behind es) (sym (take-append_seam fs (f ∷ []))) k) refl)

  goals_within : (c : ℕ → Goals → Type 0) (from to : ℕ) (gs : Goals) → AreGoals b c t from to gs → from ≤ to
  goals_within c from to no_goals h = omega (arith, h)
  goals_within c from to (goals g gs) h = let l = goals_within c (suc from) to gs h.3 in omega (arith, l)

  -- no goals have no numbers
  pub goals_none : (from to : ℕ) (gs : Goals) → AreGoals b Never t from to gs → to ≤ from → gs ≡ no_goals
  goals_none from to no_goals h l = refl
  goals_none from to (goals g gs) h l = absurd (let w = goals_within Never (suc from) to gs h.3 in omega (arith, w, l))

pub reads_on : (m n : Machine) (a : Around) (o : Option ℕ) (es : List Entry) → KeepsGoals m n → Reads m a o es → Reads n a o es
reads_on m n a o es k r =
    subst (λ b. AreEntries b (shown n.table) (blocks_of n.scopes) a n.frames.items o es) (sym k.known.bank)
    (subst (λ t. AreEntries m.bank (shown t) (blocks_of n.scopes) a n.frames.items o es) (sym k.known.table)
    (subst (λ s. AreEntries m.bank (shown m.table) (blocks_of s) a n.frames.items o es) (sym k.known.scopes)
    (subst (λ fs. AreEntries m.bank (shown m.table) (blocks_of m.scopes) a fs o es) (sym k.frames.1) (frames_more m.bank (shown m.table) (blocks_of m.scopes) a m.frames.items k.frames.0 r))))

pub list_at_on : (m n : Machine) (p : Place) (list : ℕ) (gs : List Goal) → KeepsGoals m n → IsListAt m p list gs → IsListAt n p list gs
list_at_on m n p list gs k h =
    subst (λ b. (hs : Goals) × (σ : ℕ → Term) × IsListOf b n.table list hs × IsAt b (blocks_of n.scopes) p σ × (gs ≡ goal_list (in_scope σ p.values.types hs))) (sym k.known.bank)
    (subst (λ t. (hs : Goals) × (σ : ℕ → Term) × IsListOf m.bank t list hs × IsAt m.bank (blocks_of n.scopes) p σ × (gs ≡ goal_list (in_scope σ p.values.types hs))) (sym k.known.table)
    (subst (λ s. (hs : Goals) × (σ : ℕ → Term) × IsListOf m.bank m.table list hs × IsAt m.bank (blocks_of s) p σ × (gs ≡ goal_list (in_scope σ p.values.types hs))) (sym k.known.scopes) h))

pub keeps_then : (m n o : Machine) → KeepsGoals m n → KeepsGoals n o → KeepsGoals m o
keeps_then m n o k l = record {
  known = record {
    bank = l.known.bank ∙ k.known.bank;
    bindings = l.known.bindings ∙ k.known.bindings;
    scopes = l.known.scopes ∙ k.known.scopes;
    table = l.known.table ∙ k.known.table;
    standings = l.known.standings ∙ k.known.standings;
    index = l.known.index ∙ k.known.index;
  };
  frames = goes_on_then m.frames.items n.frames.items o.frames.items k.frames l.frames;
}

-- a list of the table is what its numbers say
pub list_todo : (m : Machine) (p : Place) (list : ℕ) (span : Span) (gs : List Goal) → slice_get m.table.lists.items list ≡ Some span → IsListAt m p
    list gs → AreTodo m.bank (shown m.table) (blocks_of m.scopes) p (Todo.Goals span) gs
list_todo m p list span gs e h = go h.2
  where
    go : IsListOf m.bank m.table list h.0 → AreTodo m.bank (shown m.table) (blocks_of m.scopes) p (Todo.Goals span) gs
    go (inl x) = absurd x
    go (inr x) = let q : x.0 ≡ span = cc in (h.0, h.1, subst (λ z. AreGoals m.bank Never (shown m.table) z.from z.to h.0) q x.2, h.3, h.4)

-- a number that is none stands for no list
pub list_outside : (m : Machine) (p : Place) (list : ℕ) (gs : List Goal) → slice_get m.table.lists.items list ≡ None → IsListAt m p list gs → ⊥
list_outside m p list gs e h = go h.2
  where
    go : IsListOf m.bank m.table list h.0 → ⊥
    go (inl x) = x
    go (inr x) = let q : None ≡ Some x.0 = sym e ∙ x.1 in cc

-- the frame of a list's goals was put
pub list_put : (m n : Machine) (p : Place) (o : Option ℕ) (there : Option Span) (span s : Span) → there ≡ Some span → there ≡ Some s → span.from < span.to →
    n.frames.items ≡ m.frames.items ++ record { todo = Todo.Goals span; place = p; behind = o } ∷ [] →
    (n.frames.items ≡ m.frames.items) ⊎ ((s.from < s.to) × (n.frames.items ≡ m.frames.items ++ record { todo = Todo.Goals s; place = p; behind = o } ∷ []))
list_put m n p o there span s e f l h =
    let q : span ≡ s = (let z : Some span ≡ Some s = sym e ∙ f in cc) in
    subst (λ (x : Span). (n.frames.items ≡ m.frames.items) ⊎ ((x.from < x.to) × (n.frames.items ≡ m.frames.items ++ record { todo = Todo.Goals x; place = p; behind = o } ∷ []))) q (inr (l, h))

-- an empty one leaves the goals behind it
pub list_empty : (m : Machine) (a : Around) (p : Place) (list : ℕ) (span : Span) (gs : List Goal) (o : Option ℕ) (es : List Entry) → slice_get
    m.table.lists.items list ≡ Some span → span.to ≤ span.from → IsListAt m p list gs → Reads m a o es →
    Reads m a o (placed a p gs ++ es)
list_empty m a p list span gs o es e l h r =
    let t = list_todo m p list span gs e h in
    let n = goals_none m.bank (shown m.table) (blocks_of m.scopes) a span.from span.to t.0 t.2 l in
    let z : gs ≡ [] = t.4 ∙ ap (λ x. goal_list (in_scope t.1 p.values.types x)) n in
    subst (λ x. Reads m a o (placed a p x ++ es)) (sym z) r

pub keeps_same : (m n n' : Machine) → KeepsGoals m n → n'.bank ≡ n.bank → n'.bindings ≡ n.bindings → n'.scopes ≡ n.scopes → n'.table ≡ n.table →
    n'.standings ≡ n.standings → n'.index ≡ n.index → n'.frames ≡ n.frames → KeepsGoals m n'
keeps_same m n n' k b d s t g i f = record {
  known = record { bank = b ∙ k.known.bank; bindings = d ∙ k.known.bindings; scopes = s ∙ k.known.scopes; table = t ∙ k.known.table; standings = g ∙ k.known.standings; index = i ∙ k.known.index };
  frames = subst (λ x. GoesOn m.frames.items x.items) (sym f) k.frames;
}

-- a list of the table in a place
pub list_of : (m : Machine) (p : Place) (list : ℕ) (hs : Goals) (σ : ℕ → Term) → IsOf m p list hs σ → IsListAt m p list (goal_list (in_scope σ p.values.types hs))
list_of m p list hs σ h = (hs, σ, h.0, h.1, refl)

front_stays : {X : Type 0} (n : ℕ) (xs ys : List X) → GoesOn xs ys → n ≡ length xs → take n ys ≡ xs
front_stays n xs ys g e = ap (take n) g.1 ∙ ap (λ k. take k (xs ++ g.0)) e ∙ take-append_seam xs g.0

-- goals of now read so in an alternative that is put now
pub kept_choice : (m n : Machine) (a : Around) (o : Option ℕ) (es : List Entry) (c : Choice) → KeepsGoals m n → c.lengths.frames ≡ length
    m.frames.items → c.lengths.scopes.blocks ≡ block_count m.scopes → c.lengths.scopes.values ≡ value_count m.scopes → Reads m a o es →
    AreEntries n.bank (shown n.table) (blocks_at c.lengths.scopes n.scopes) a (take c.lengths.frames n.frames.items) o es
kept_choice m n a o es c k f b v r =
    let s = k.known.scopes in
    let eb : take c.lengths.scopes.blocks n.scopes.blocks.items ≡ m.scopes.blocks.items = ap (λ z. take c.lengths.scopes.blocks z.blocks.items) s ∙
    take_all c.lengths.scopes.blocks m.scopes.blocks.items (omega (arith, b)) in
    let ev : take c.lengths.scopes.values n.scopes.values.items ≡ m.scopes.values.items = ap (λ z. take c.lengths.scopes.values z.values.items) s ∙
    take_all c.lengths.scopes.values m.scopes.values.items (omega (arith, v)) in
    let z : blocks_of m.scopes ≡ blocks_at c.lengths.scopes n.scopes = (λ i. record { blocks = sym eb i; values = sym ev i }) in
    subst (λ b. AreEntries b (shown n.table) (blocks_at c.lengths.scopes n.scopes) a (take c.lengths.frames n.frames.items) o es) (sym k.known.bank)
    (subst (λ t. AreEntries m.bank (shown t) (blocks_at c.lengths.scopes n.scopes) a (take c.lengths.frames n.frames.items) o es) (sym k.known.table)
    (subst (λ s. AreEntries m.bank (shown m.table) s a (take c.lengths.frames n.frames.items) o es) z
    (subst (λ fs. AreEntries m.bank (shown m.table) (blocks_of m.scopes) a fs o es) (sym (front_stays c.lengths.frames m.frames.items n.frames.items k.frames f)) r)))

-- goals are put in front, and others are an alternative
module _ (m n p q r : Machine) (a : Around) (b : Branch) (one other : List Entry) (o : Option ℕ) (k : KeepsGoals n p) (l : KeepsGoals p q)
    (j : KeepsGoals q r) (nb : n.branch ≡ m.branch) (pb : p.branch ≡ n.branch) (qb : q.branch ≡ p.branch)
    (rn : r.branch.next ≡ q.branch.next) (rt : r.branch.next_type ≡ q.branch.next_type) (c : n.choices.items ≡ m.choices.items)
    (h : HasAlternative n p (Untried.Goals o)) (d : q.choices.items ≡ p.choices.items) (e : r.choices.items ≡ q.choices.items)
    (bn : m.branch.next ≡ b.next) (bt : m.branch.next_type ≡ b.next_type) (x : Reads r a r.branch.goals one) (y : Reads n a o other) where
  pub split : AreTasks m r a (Go (with_goals b one) ∷ Go (with_goals b other) ∷ [])
  split = (
    record { goals = x; next = rn ∙ ap (λ z. z.next) (qb ∙ pb ∙ nb) ∙ bn; next_type = rt ∙ ap (λ z. z.next_type) (qb ∙ pb ∙ nb) ∙ bt },
    (
      h.choice,
      e ∙ d ∙ h.more ∙ ap (λ z. z ++ h.choice ∷ []) c,
      record {
        from = o;
        left = h.left;
        goals = kept_choice n r a o other h.choice (keeps_then n q r (keeps_then n p q k l) j) h.frames h.blocks h.values y;
        next = h.next ∙ ap (λ z. z.next) nb ∙ bn;
        next_type = h.next_type ∙ ap (λ z. z.next_type) nb ∙ bt;
      },
    ),
  )
