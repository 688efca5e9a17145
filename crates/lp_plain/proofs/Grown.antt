-- Goals that are put in front name the assumptions of their place, and all places stand for what they stood for.
use Rattle.std.proofs.Common.{◌≡◌, ℕ, List, [], ◌∷◌, ◌++◌, length, take, ◌<◌, refl, sym, ap, ◌∙◌, subst, arith, append-nil, append_assoc, inl, inr}
use Rattle.std.specs.Prelude.{All}
use Rattle.std.proofs.Math.Seq.{take-append_seam}
use Rattle.std.proofs.lemmas.List.{take_all}
use Rattle.std.proofs.lemmas.List.Elements.{All-nil, All-cons, All-append, All-weaker}
use Rattle.lp_pattern.specs.Growing.{GoesOn}
use Rattle.lp_pattern.proofs.Keeps.{goes_on_same, goes_on_then}
use Rattle.lp_plain.specs.declared.choice.Choice.{Choice}
use Rattle.lp_plain.specs.declared.choice.Untried.{Untried}
use Rattle.lp_plain.specs.declared.frame.Frame.{Frame}
use Rattle.lp_plain.specs.declared.frame.Place.{Place}
use Rattle.lp_plain.specs.declared.machine.Machine.{Machine}
use Rattle.lp_plain.specs.Apart.{apart, one_apart}
use Rattle.lp_plain.specs.Assuming.{Lists, lists_of, ArePlaced, HasAssumed, HasFrameAt, HasWritten, GrowsAt, GrowsOn, IsLaterAround, IsNumberIn, IsPlaceAt, KeepsAssumed, NamesAsIn}
use Rattle.lp_plain.specs.Entries.{Around, GrowsGoals, HasAlternative, KeepsGoals}
use Rattle.lp_plain.specs.Taking.{GoesQuietly, IsAbove, IsKept, KeepsNew}
use Rattle.lp_plain.specs.Trying.{lists_at}
use Rattle.lp_plain.specs.Within.{StandsIn}
use Rattle.lp_plain.proofs.Assumed.{place_on, places_on}
use Rattle.lp_plain.proofs.Assuming.{lists_then}
use Rattle.lp_plain.proofs.Growing.{grows_kept}
use Rattle.lp_plain.proofs.Within.{longer_list}

-- no frame comes
pub grown_still : (m n : Machine) (p : Place) → GrowsGoals m n → n.frames ≡ m.frames → KeepsAssumed m n → n.standings ≡ m.standings → n.index ≡ m.index → n.denied ≡ m.denied → GrowsAt m n p
grown_still m n p g f a s x d = record {
  lists = record {
    bank = g.bank;
    table = g.table;
    blocks = g.blocks;
    values = g.values;
    assumptions = subst (λ z. GoesOn m.assumptions.items z.items) (sym a.assumptions) (goes_on_same m.assumptions.items);
    newest = subst (λ z. GoesOn m.newest.items z.items) (sym a.newest) (goes_on_same m.newest.items);
    standings = subst (λ z. GoesOn m.standings.items z.items) (sym s) (goes_on_same m.standings.items);
  };
  frames = ([], ap (λ v. v.items) f ∙ sym (append-nil m.frames.items), All-nil (NamesAsIn p));
  index = x;
  denied = d;
}

pub grown_kept : (m n : Machine) (p : Place) → KeepsGoals m n → n.frames ≡ m.frames → KeepsAssumed m n → n.denied ≡ m.denied → GrowsAt m n p
grown_kept m n p k f a d = grown_still m n p (grows_kept m n k) f a k.known.standings k.known.index d

-- at most one comes
pub grown_frame : (m n : Machine) (p : Place) → KeepsGoals m n → KeepsAssumed m n → HasFrameAt m n p → n.denied ≡ m.denied → GrowsAt m n p
grown_frame m n p k a h d =
    let g = grows_kept m n k in
    record {
      lists = record {
        bank = g.bank;
        table = g.table;
        blocks = g.blocks;
        values = g.values;
        assumptions = subst (λ z. GoesOn m.assumptions.items z.items) (sym a.assumptions) (goes_on_same m.assumptions.items);
        newest = subst (λ z. GoesOn m.newest.items z.items) (sym a.newest) (goes_on_same m.newest.items);
        standings = subst (λ z. GoesOn m.standings.items z.items) (sym k.known.standings) (goes_on_same m.standings.items);
      };
      frames = elim h [
        | inl e ↦ ([], e ∙ sym (append-nil m.frames.items), All-nil (NamesAsIn p))
        | inr x ↦ (x.0 ∷ [], x.2, All-cons (NamesAsIn p) x.0 [] (ap (λ q. q.assumed) x.1, ap (λ q. q.standing) x.1) (All-nil (NamesAsIn p)))
      ];
      index = k.known.index;
      denied = d;
    }

pub grown_then : (m n o : Machine) (p : Place) → GrowsAt m n p → GrowsAt n o p → GrowsAt m o p
grown_then m n o p g h =
    let f = g.frames in
    let k = h.frames in
    record {
      lists = lists_then (lists_of m) (lists_of n) (lists_of o) g.lists h.lists;
      frames = (f.0 ++ k.0, k.1 ∙ ap (λ l. l ++ k.0) f.1 ∙ append_assoc m.frames.items f.0 k.0, All-append (NamesAsIn p) f.0 k.0 f.2 k.2);
      index = h.index ∙ g.index;
      denied = h.denied ∙ g.denied;
    }

-- by another place with the same assumptions
pub grown_by : (m n : Machine) (p q : Place) → q.assumed ≡ p.assumed → q.standing ≡ p.standing → GrowsAt m n q → GrowsAt m n p
grown_by m n p q e f g =
    let k = g.frames in
    record { lists = g.lists; frames = (k.0, k.1, All-weaker (NamesAsIn q) (NamesAsIn p) (λ x h. (h.0 ∙ e, h.1 ∙ f)) k.0 k.2); index = g.index; denied = g.denied }

-- all places stand for what they stood for
place_like : (l : Lists) (a : Around) (p q : Place) → q.assumed ≡ p.assumed → q.standing ≡ p.standing → IsPlaceAt l a p → IsPlaceAt l a q
place_like l a p q e f h = record {
  tree = subst (IsNumberIn (length l.newest)) (sym e) h.tree;
  standing = subst (IsNumberIn (length l.standings)) (sym f) h.standing;
  assumed = subst (λ x. HasAssumed l x (a.assumed x)) (sym e) h.assumed;
  written = subst (λ x. HasWritten l x (a.written x)) (sym f) h.written;
}

pub same_around : (trees standings : ℕ) (a : Around) → IsLaterAround trees standings a a
same_around trees standings a = record { assumed = λ o h. refl; written = λ o h. refl; mark = refl }

pub placed_on : (m n : Machine) (a : Around) (p : Place) → GrowsAt m n p → StandsIn m → ArePlaced m a → IsPlaceAt (lists_of m) a p → ArePlaced n a
placed_on m n a p g i h k =
    let f = g.frames in
    let same = same_around (length m.newest.items) (length m.standings.items) a in
    let at = place_on (lists_of m) (lists_of n) i.table i.values g.lists a a p same k in
    subst (All (λ (f : Frame). IsPlaceAt (lists_of n) a f.place)) (sym f.1)
    (All-append (λ (f : Frame). IsPlaceAt (lists_of n) a f.place) m.frames.items f.0 (places_on (lists_of m) (lists_of n) i.table i.values g.lists a a m.frames.items same h)
    (All-weaker (NamesAsIn p) (λ (f : Frame). IsPlaceAt (lists_of n) a f.place) (λ x y. place_like (lists_of n) a p x.place y.0 y.1 at) f.0 f.2))

-- once it was counted
pub grown_apart : (m c n : Machine) (p : Place) → c ≡ apart m → GrowsAt c n p → GrowsAt m n p
grown_apart m c n p e g = let h : GrowsAt (apart m) n p = subst (λ z. GrowsAt z n p) e g in record { lists = h.lists; frames = h.frames; index = h.index; denied = h.denied }

pub stands_apart : (m c n : Machine) → c ≡ apart m → (StandsIn c → StandsIn n) → StandsIn m → StandsIn n
stands_apart m c n e g i = let h : StandsIn (apart m) → StandsIn n = subst (λ z. StandsIn z → StandsIn n) e g in h (record { table = i.table; values = i.values; frames = i.frames })

-- whatever place it is

pub grown_on : (m n : Machine) (p : Place) → GrowsAt m n p → GrowsOn m n
grown_on m n p g = let f = g.frames in record { lists = g.lists; frames = (f.0, f.1); index = g.index; denied = g.denied }

pub on_then : (m n o : Machine) → GrowsOn m n → GrowsOn n o → GrowsOn m o
on_then m n o g h = record {
  lists = lists_then (lists_of m) (lists_of n) (lists_of o) g.lists h.lists;
  frames = goes_on_then m.frames.items n.frames.items o.frames.items g.frames h.frames;
  index = h.index ∙ g.index;
  denied = h.denied ∙ g.denied;
}

pub on_apart : (m c n : Machine) → c ≡ apart m → GrowsOn c n → GrowsOn m n
on_apart m c n e g = let h : GrowsOn (apart m) n = subst (λ z. GrowsOn z n) e g in record { lists = h.lists; frames = h.frames; index = h.index; denied = h.denied }

pub quietly : (m c n : Machine) → c ≡ apart m → (m.counts.row < 1000000) × (c.counts ≡ one_apart m.counts) → GrowsOn c n → n.counts ≡ c.counts → GoesQuietly m n
quietly m c n e t g k = record { on = on_apart m c n e g; row = t.0; counts = k ∙ t.1 }

-- what is kept of an alternative that came
abbrev pub KeepsThat : (old new : Machine) → Place → Type 0
KeepsThat m n p = (a : Around) → StandsIn m → ArePlaced m a → IsPlaceAt (lists_of m) a p → KeepsNew m n a

pub kept_apart : (m c n : Machine) (p : Place) → c ≡ apart m → KeepsThat c n p → KeepsThat m n p
kept_apart m c n p e g = λ a i pl h x q.
    let y : KeepsThat (apart m) n p = subst (λ z. KeepsThat z n p) e g in
    let z = y a (record { table = i.table; values = i.values; frames = i.frames }) pl h x q in
    let u = z.1 in
    (z.0, record { frames = u.frames; blocks = u.blocks; values = u.values; assumptions = u.assumptions; newest = u.newest; standings = u.standings })

-- an alternative that was put reads within what there was
pub alternative_kept : (n o r : Machine) (a : Around) (untried : Untried) (h : HasAlternative n o untried) → KeepsGoals n r → KeepsAssumed n r → ArePlaced n a → IsKept r a h.choice
alternative_kept n o r a untried h k ka pl =
    let c = h.choice in
    let s = k.known.scopes in
    let fr : take c.lengths.frames r.frames.items ≡ n.frames.items = ap (λ z. take z r.frames.items) h.frames ∙ front_is n.frames.items r.frames.items k.frames in
    let bl : take c.lengths.scopes.blocks r.scopes.blocks.items ≡ n.scopes.blocks.items = (λ i. take (h.blocks i) (s i).blocks.items) ∙ take-all n.scopes.blocks.items in
    let vl : take c.lengths.scopes.values r.scopes.values.items ≡ n.scopes.values.items = (λ i. take (h.values i) (s i).values.items) ∙ take-all n.scopes.values.items in
    let asm : take c.lengths.assumptions r.assumptions.items ≡ n.assumptions.items = (λ i. take (h.assumptions i) (ka.assumptions i).items) ∙ take-all n.assumptions.items in
    let nw : take c.lengths.newest r.newest.items ≡ n.newest.items = (λ i. take (h.newest i) (ka.newest i).items) ∙ take-all n.newest.items in
    let st : take c.lengths.standings r.standings.items ≡ n.standings.items = (λ i. take (h.standings i) (k.known.standings i).items) ∙ take-all n.standings.items in
    let lists : lists_of n ≡ lists_at c r =
    (λ i. record {
      bank = sym k.known.bank i;
      table = sym k.known.table i;
      blocks = record { blocks = sym bl i; values = sym vl i };
      assumptions = sym
          asm i;
      newest = sym nw i;
      standings = sym st i;
    }) in
    let f = longer_list n.frames.items r.frames.items k.frames in
    let lb = ap (λ z. length z.blocks.items) s in
    let lv = ap (λ z. length z.values.items) s in
    let la = ap (λ z. length z.items) ka.assumptions in
    let ln = ap (λ z. length z.items) ka.newest in
    let ls = ap (λ z. length z.items) k.known.standings in
    let hf = h.frames in
    let hb = h.blocks in
    let hv = h.values in
    let ha = h.assumptions in
    let hn = h.newest in
    let hs = h.standings in
    record {
      frames = omega (arith, f, hf);
      blocks = omega (arith, lb, hb);
      values = omega (arith, lv, hv);
      assumptions = omega (arith, la, ha);
      newest = omega (arith, ln, hn);
      standings = omega (arith, ls, hs);
      placed = subst (λ l. All (λ (x : Frame). IsPlaceAt l a x.place) (take c.lengths.frames r.frames.items)) lists (subst (All (λ (x : Frame). IsPlaceAt (lists_of n) a x.place)) (sym fr) pl);
    }
  where
    take-all : {X : Type 0} (xs : List X) → take (length xs) xs ≡ xs
    take-all xs = take_all (length xs) xs (omega arith)

    front_is : {X : Type 0} (xs ys : List X) → GoesOn xs ys → take (length xs) ys ≡ xs
    front_is xs ys g = ap (take (length xs)) g.1 ∙ take-append_seam xs g.0

-- and above what there was before
pub alternative_above : (m n o : Machine) (untried : Untried) (h : HasAlternative n o untried) → GrowsOn m n → IsAbove m h.choice
alternative_above m n o untried h g =
    let lf = longer_list m.frames.items n.frames.items g.frames in
    let lb = longer_list m.scopes.blocks.items n.scopes.blocks.items g.lists.blocks in
    let lv = longer_list m.scopes.values.items n.scopes.values.items g.lists.values in
    let la = longer_list m.assumptions.items n.assumptions.items g.lists.assumptions in
    let ln = longer_list m.newest.items n.newest.items g.lists.newest in
    let ls = longer_list m.standings.items n.standings.items g.lists.standings in
    let hf = h.frames in
    let hb = h.blocks in
    let hv = h.values in
    let ha = h.assumptions in
    let hn = h.newest in
    let hs = h.standings in
    record {
      frames = omega (arith, lf, hf);
      blocks = omega (arith, lb, hb);
      values = omega (arith, lv, hv);
      assumptions = omega (arith, la, ha);
      newest = omega (arith, ln, hn);
      standings = omega (arith, ls, hs);
    }

pub above_from : (m q : Machine) (c : Choice) → GrowsOn m q → IsAbove q c → IsAbove m c
above_from m q c g h =
    let lf = longer_list m.frames.items q.frames.items g.frames in
    let lb = longer_list m.scopes.blocks.items q.scopes.blocks.items g.lists.blocks in
    let lv = longer_list m.scopes.values.items q.scopes.values.items g.lists.values in
    let la = longer_list m.assumptions.items q.assumptions.items g.lists.assumptions in
    let ln = longer_list m.newest.items q.newest.items g.lists.newest in
    let ls = longer_list m.standings.items q.standings.items g.lists.standings in
    let hf = h.frames in
    let hb = h.blocks in
    let hv = h.values in
    let ha = h.assumptions in
    let hn = h.newest in
    let hs = h.standings in
    record {
      frames = omega (arith, lf, hf);
      blocks = omega (arith, lb, hb);
      values = omega (arith, lv, hv);
      assumptions = omega (arith, la, ha);
      newest = omega (arith, ln, hn);
      standings = omega (arith, ls, hs);
    }
