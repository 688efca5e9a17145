-- What is kept by calls one after another.
use Rattle.std.proofs.Common.{◌≡◌, ℕ, ◌<◌, length, refl, sym, ap, ◌∙◌, subst, arith, length-set, get_or-set_other, get_or-set_same}
use Rattle.lp_calculus.specs.Convert.{done}
use Rattle.lp_calculus.proofs.Confluent.{reduces_on}
use Rattle.lp_store.specs.declared.cell.CellId.{CellId}
use Rattle.lp_store.specs.declared.cell.Cell.TheVariants.{Ref, Index}
use Rattle.lp_store.specs.Contents.{Contents, cell_at}
use Rattle.lp_store.specs.Change.{Extends, changed}
use Rattle.lp_susp.specs.Kept.{IsSettled, Grows, Keeps, Reduced, AvoidsOn}

pub grows_of : (s z : Contents) → Extends s z → Grows s z
grows_of s z e = record {
  more_cells = e.more_cells;
  more_items = e.more_items;
  more_bytes = e.more_bytes;
  more_envs = e.more_envs;
  items = e.items;
  bytes = e.bytes;
  envs = e.envs;
}

pub grows_on : (a b c : Contents) → Grows a b → Grows b c → Grows a c
grows_on a b c p q = record {
  more_cells = omega (arith, p.more_cells, q.more_cells);
  more_items = omega (arith, p.more_items, q.more_items);
  more_bytes = omega (arith, p.more_bytes, q.more_bytes);
  more_envs = omega (arith, p.more_envs, q.more_envs);
  items = λ f n h. q.items f n (omega (arith, p.more_items)) ∙ p.items f n h;
  bytes = λ f n h. q.bytes f n (omega (arith, p.more_bytes)) ∙ p.bytes f n h;
  envs = λ e h. q.envs e (omega (arith, p.more_envs)) ∙ p.envs e h;
}

pub grows_changed : (s z : Contents) (a : ℕ) (to : CellId) → z ≡ changed s a to → Grows s z
grows_changed s z a to e = subst (Grows s) (sym e) (record {
  more_cells = omega (arith, length-set s.cells a (Ref to));
  more_items = omega arith;
  more_bytes = omega arith;
  more_envs = omega arith;
  items = λ f n h. refl;
  bytes = λ f n h. refl;
  envs = λ e h. refl;
})

pub changed_elsewhere : (s z : Contents) (a : ℕ) (to : CellId) → z ≡ changed s a to → (i : ℕ) → (i ≡ a → ⊥) → cell_at z i ≡ cell_at s i
changed_elsewhere s z a to e i n = ap (λ v. cell_at v i) e ∙ get_or-set_other s.cells a i (Ref to) (Index 0) n

pub changed_there : (s z : Contents) (a : ℕ) (to : CellId) → z ≡ changed s a to → a < length s.cells → cell_at z a ≡ Ref to
changed_there s z a to e h = ap (λ v. cell_at v a) e ∙ get_or-set_same s.cells a (Ref to) (Index 0) h

pub avoids_on : (a b c : Contents) → Grows a b → AvoidsOn a b → AvoidsOn b c → AvoidsOn a c
avoids_on a b c g p q x i hx hi n = q x i (omega (arith, hx, g.more_cells)) (omega (arith, hi, g.more_cells)) (p x i hx hi n)

pub keeps_of : (s z : Contents) → Extends s z → Keeps s z
keeps_of s z e = record {
  grows = grows_of s z e;
  types = e.types;
  terms = e.reads;
  avoids = λ c i hc hi n l. n (e.leads i c hi l);
  settled = λ i h q. e.cells i h;
}

pub grows_same : (s : Contents) → Grows s s
grows_same s = record {
  more_cells = omega arith;
  more_items = omega arith;
  more_bytes = omega arith;
  more_envs = omega arith;
  items = λ f n h. refl;
  bytes = λ f n h. refl;
  envs = λ e h. refl;
}

pub keeps_same : (s : Contents) → Keeps s s
keeps_same s = record { grows = grows_same s; types = λ i T r. r; terms = λ i t r. r; avoids = λ c i hc hi n. n; settled = λ i h q. refl }

pub keeps_on : (a b c : Contents) → Keeps a b → Keeps b c → Keeps a c
keeps_on a b c p q = record {
  grows = grows_on a b c p.grows q.grows;
  types = λ i T r. q.types i T (p.types i T r);
  terms = λ i t r. q.terms i t (p.terms i t r);
  avoids = avoids_on a b c p.grows p.avoids q.avoids;
  settled = λ i h x. (let e = p.settled i h x in q.settled i (omega (arith, h, p.grows.more_cells)) (subst IsSettled (sym e) x) ∙ e);
}

pub reduced_same : (s : Contents) → Reduced s s
reduced_same s = record { grows = grows_same s; types = λ i T r. r; terms = λ i t r. (t, r, done t); avoids = λ c i hc hi n. n }

pub reduced_of : (s z : Contents) → Keeps s z → Reduced s z
reduced_of s z k = record { grows = k.grows; types = k.types; terms = λ i t r. (t, k.terms i t r, done t); avoids = k.avoids }

pub reduced_on : (a b c : Contents) → Reduced a b → Reduced b c → Reduced a c
reduced_on a b c p q = record {
  grows = grows_on a b c p.grows q.grows;
  types = λ i T r. q.types i T (p.types i T r);
  terms = λ i t r. (let x = p.terms i t r in let y = q.terms i x.0 x.1 in (y.0, y.1, reduces_on x.2 y.2));
  avoids = avoids_on a b c p.grows p.avoids q.avoids;
}
