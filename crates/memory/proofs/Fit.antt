-- In a memory that fits, what leads to a node of the catalog reads to a value, and that value fits the node.
-- Assumes nothing.
use Prim.Native.Nat.{ℕ, zero, suc, ◌<◌}
use native.Mathlib.Omega.{arith}
use mathlib.Core.Path.{◌≡◌, refl, subst}
use mathlib.Core.Bool.{Bool, true, false, cond, false≢true, true≢false}
use mathlib.Core.List.{List, [], ◌∷◌}
use Rattle.std.specs.Prelude.{None, Option, Some}
use lib.Dec.{ltb}
use borrow.Author.Tests.{ltb-true}
use Rattle.fields.specs.Text.{Text, bytes, lowered, same, alike}
use Rattle.fields.specs.Options.{and_then}
use Rattle.fields.specs.Format.{All}
use Rattle.fields.proofs.Lists.{eqb-sym}
use Rattle.fields.proofs.Options.{none-some, some_is, then_id, then_some}
use Rattle.names.specs.Name.{Key, member, item, several, Token, tokens_of}
use Rattle.catalog.specs.Catalog.{Node, Catalog}
use Rattle.catalog.specs.Finding.{find, any, holds}
use Rattle.nodes.specs.Lookup.{is_called}
use Rattle.sizes.specs.Sizes.{is_empty, bit_types}
use Rattle.values.specs.Value.{Value, leaf, array, struct, Items, no_item, Members, no_member, nth, first_member}
use Rattle.values.specs.Value.{text as string, item as one_item, member as one_member}
use Rattle.values.specs.File.{item_count}
use Rattle.memory.specs.Fitting.{Shape, any_value, leaf_of, string_shape, struct_of, items_of, bits_of, some_bits, sided, row_shape, sides_shape, shape_of, Fits, fits_any, fits_leaf, fits_string, fits_struct, fits_items, fits_bits, fits_some_bits, FitsItems, fits_no_item, fits_item, FitsMembers, fits_no_member, fits_member, Memory, MemoryFits, is_below, called_in, member_in, indexed_by, node_behind, node_along, node_of, tag_fits}
use Rattle.memory.specs.Reading.{member_of, item_of, item_along, value_behind, value_along, base_value, read_tokens}

-- what reading gave is a value that fits the node
pub record Found (c : Catalog) (r : Option Value) (n : Node) : Type 0 where
  pub value : Value
  pub is : r ≡ Some value
  pub fits : Fits c value (shape_of c n)

pub found-then : (c : Catalog) (o : Option Value) (f : Value → Option Value) (n k : Node) → Found c o n
    → ((w : Value) → Fits c w (shape_of c n) → Found c (f w) k) → Found c (and_then o f) k
unfolding and_then
found-then c o f n k h g = rw h.is (g h.value h.fits)

-- ---- names
same-swap : (s t : Text) → same s t ≡ same t s
unfolding same
same-swap [] [] = refl
same-swap [] (y ∷ t) = refl
same-swap (x ∷ s) [] = refl
same-swap (x ∷ s) (y ∷ t) = rw (eqb-sym x y, same-swap s t)

alike-swap : (s t : Text) → alike s t ≡ alike t s
unfolding alike
alike-swap s t = same-swap (lowered s) (lowered t)

-- what holds of each node holds of the one that a name finds
pub each-called : (P : Node → Type 0) (t : Text) (ns : List Node) (n : Node) → All P ns → called_in t ns ≡ Some n → P n
unfolding called_in find
each-called P t [] n h e = absurd (none-some e)
each-called P t (x ∷ ns) n h e = go (is_called t x) e (each-called P t ns n h.1)
  where
    go : (b : Bool) → cond b (Some x) (called_in t ns) ≡ Some n → (called_in t ns ≡ Some n → P n) → P n
    go true q r = subst P (some_is q) h.0
    go false q r = r q

member-found : (c : Catalog) (t : Text) (ms : Members) (ns : List Node) (n : Node) → FitsMembers c ms ns → called_in t ns ≡ Some n
    → Found c (first_member (alike t) ms) n
unfolding called_in find first_member is_called
member-found c t (one_member k v ms) [] n x4 e = elim x4 [ ]
member-found c t no_member (x ∷ ns) n x5 e = elim x5 [ ]
member-found c t no_member [] n fits_no_member e = absurd (none-some e)
member-found c t (one_member k v ms) (x ∷ ns) n (fits_member _ _ _ _ _ i h hs) e =
    rw (i, alike-swap t x.name) (go (alike x.name t) e (member-found c t ms ns n hs))
  where
    go : (b : Bool) → cond b (Some x) (called_in t ns) ≡ Some n → (called_in t ns ≡ Some n → Found c (first_member (alike t) ms) n)
        → Found c (cond b (Some v) (first_member (alike t) ms)) n
    go true q r = record { value = v; is = refl; fits = subst (λ k. Fits c v (shape_of c k)) (some_is q) h }
    go false q r = r q

-- a name leads to the member
named-found : (c : Catalog) (v : Value) (s : Shape) → Fits c v s → (t : Text) (o : Node) → member_in s t ≡ Some o → Found c (member_of v t) o
unfolding member_in member_of
named-found c (array vs) (leaf_of z) x3 t o e = elim x3 [ ]
named-found c (array vs) (struct_of ns) x6 t o e = elim x6 [ ]
named-found c (array vs) string_shape x5 t o e = elim x5 [ ]
named-found c (leaf b) (bits_of d) x7 t o e = elim x7 [ ]
named-found c (leaf b) (items_of d n) x6 t o e = elim x6 [ ]
named-found c (leaf b) (struct_of ns) x5 t o e = elim x5 [ ]
named-found c (leaf b) some_bits x8 t o e = elim x8 [ ]
named-found c (leaf b) string_shape x4 t o e = elim x4 [ ]
named-found c (string b) (bits_of d) x9 t o e = elim x9 [ ]
named-found c (string b) (items_of d n) x8 t o e = elim x8 [ ]
named-found c (string b) (leaf_of z) x5 t o e = elim x5 [ ]
named-found c (string b) (struct_of ns) x7 t o e = elim x7 [ ]
named-found c (string b) some_bits x10 t o e = elim x10 [ ]
named-found c (struct ms) (bits_of d) x8 t o e = elim x8 [ ]
named-found c (struct ms) (items_of d n) x7 t o e = elim x7 [ ]
named-found c (struct ms) (leaf_of z) x4 t o e = elim x4 [ ]
named-found c (struct ms) some_bits x9 t o e = elim x9 [ ]
named-found c (struct ms) string_shape x6 t o e = elim x6 [ ]
named-found c v any_value (fits_any w) t o e = absurd (none-some e)
named-found c (leaf b) (leaf_of z) (fits_leaf _ _ q) t o e = absurd (none-some e)
named-found c (string b) string_shape (fits_string _) t o e = absurd (none-some e)
named-found c (struct ms) (struct_of ns) (fits_struct _ _ h) t o e = member-found c t ms ns o h e
named-found c (array vs) (items_of d n) (fits_items _ _ _ q h) t o e = absurd (none-some e)
named-found c (array vs) (bits_of d) (fits_bits _ _ q h) t o e = absurd (none-some e)
named-found c (array vs) some_bits (fits_some_bits _ h) t o e = absurd (none-some e)

-- ---- indexes
item-found : (c : Catalog) (vs : Items) (n : Node) → FitsItems c vs n → (i : ℕ) → i < item_count vs → Found c (nth vs i) n
unfolding item_count nth
item-found c no_item n (fits_no_item k) i l = absurd (omega arith)
item-found c (one_item v vs) n (fits_item _ _ _ h hs) zero l = record { value = v; is = refl; fits = h }
item-found c (one_item v vs) n (fits_item _ _ _ h hs) (suc i) l = item-found c vs n hs i (omega arith)

-- a type that is none of several
pub not-any : (p : Text → Bool) (x : Text) (xs : List Text) → any p (x ∷ xs) ≡ false → (p x ≡ false) × (any p xs ≡ false)
unfolding any
not-any p x xs e = go (p x) refl e
  where
    go : (b : Bool) → p x ≡ b → cond b true (any p xs) ≡ false → (p x ≡ false) × (any p xs ≡ false)
    go true q f = absurd (true≢false f)
    go false q f = (q, f)

-- an array whose items may be indexed
pub array_shape : (c : Catalog) (n : Node) (d : ℕ) (ds : List ℕ) → any (same n.type_name) bit_types ≡ false
    → shape_of c (sided n (d ∷ ds)) ≡ items_of d (sided n ds)
unfolding shape_of sides_shape row_shape sided
array_shape c n d [] b =
    let p = same n.type_name in
    let bool = not-any p (bytes "BOOL") (bytes "BYTE" ∷ bytes "WORD" ∷ bytes "DWORD" ∷ bytes "LWORD" ∷ []) b in
    let byte = not-any p (bytes "BYTE") (bytes "WORD" ∷ bytes "DWORD" ∷ bytes "LWORD" ∷ []) bool.1 in
    let word = not-any p (bytes "WORD") (bytes "DWORD" ∷ bytes "LWORD" ∷ []) byte.1 in
    let dword = not-any p (bytes "DWORD") (bytes "LWORD" ∷ []) word.1 in
    rw (dword.0, bool.0)
array_shape c n d (e ∷ ds) b = refl

-- a value that fits an array's shape
pub record ArrayOf (c : Catalog) (v : Value) (d : ℕ) (n : Node) : Type 0 where
  pub items : Items
  pub is : v ≡ array items
  pub count : item_count items ≡ d
  pub fit : FitsItems c items n

pub array-is : (c : Catalog) (v : Value) (d : ℕ) (n : Node) → Fits c v (items_of d n) → ArrayOf c v d n
array-is c (leaf _) d n x'' = elim x'' [ ]
array-is c (string _) d n x4 = elim x4 [ ]
array-is c (struct _) d n x3 = elim x3 [ ]
array-is c (array vs) d n (fits_items _ _ _ q h) = record { items = vs; is = refl; count = q; fit = h }

item-of-found : (c : Catalog) (v : Value) (d : ℕ) (n : Node) (i : ℕ) → Fits c v (items_of d n) → i < d → Found c (item_of v i) n
unfolding item_of
item-of-found c (leaf _) d n i x3 l = elim x3 [ ]
item-of-found c (string _) d n i x5 l = elim x5 [ ]
item-of-found c (struct _) d n i x4 l = elim x4 [ ]
item-of-found c (array vs) d n i (fits_items _ _ _ q h) l = item-found c vs n h i (omega arith)

-- one index for each dimension leads to the item
items-found : (c : Catalog) (n : Node) → any (same n.type_name) bit_types ≡ false → (is ds : List ℕ) (v : Value)
    → Fits c v (shape_of c (sided n ds)) → is_below is ds ≡ true → Found c (item_along v is) (sided n [])
unfolding is_below item_along
items-found c n b [] [] v h e = record { value = v; is = refl; fits = h }
items-found c n b [] (d ∷ ds) v h e = absurd (false≢true e)
items-found c n b (i ∷ is) [] v h e = absurd (false≢true e)
items-found c n b (i ∷ is) (d ∷ ds) v h e = go (ltb i d) refl e (λ w f q. items-found c n b is ds w f q)
  where
    go : (t : Bool) → ltb i d ≡ t → cond t (is_below is ds) false ≡ true
        → ((w : Value) → Fits c w (shape_of c (sided n ds)) → is_below is ds ≡ true → Found c (item_along w is) (sided n []))
        → Found c (and_then (item_of v i) (λ w. item_along w is)) (sided n [])
    go true l q r =
        found-then c (item_of v i) (λ w. item_along w is) (sided n ds) (sided n [])
        (item-of-found c v d (sided n ds) i (rw (array_shape c n d ds b) at h) (ltb-true i d l)) (λ w f. r w f q)
    go false l q r = absurd (false≢true q)

bracket-found : (c : Catalog) (n : Node) (is : List ℕ) (v : Value) (o : Node) → Fits c v (shape_of c n) → indexed_by n is ≡ Some o
    → Found c (item_along v is) o
unfolding indexed_by sided
bracket-found c n is v o h e = go (any (same n.type_name) bit_types) refl (is_below is n.dims) refl e
  where
    go : (b : Bool) → any (same n.type_name) bit_types ≡ b → (w : Bool) → is_below is n.dims ≡ w → cond b None (cond w (Some (sided n [])) None) ≡ Some o
        → Found c (item_along v is) o
    go true b w l q = absurd (none-some q)
    go false b true l q = subst (Found c (item_along v is)) (some_is q) (items-found c n b is n.dims v h l)
    go false b false l q = absurd (none-some q)

-- ---- tokens
-- a key that leads to a node leads to a value that fits it
pub step-found : (c : Catalog) (n : Node) (k : Key) (v : Value) (o : Node) → Fits c v (shape_of c n) → node_behind c n k ≡ Some o
    → Found c (value_behind v k) o
unfolding node_behind value_behind item_along
step-found c n (member t) v o h e = named-found c v (shape_of c n) h t o e
step-found c n (item i) v o h e = rw (← then_id (item_of v i)) (bracket-found c n (i ∷ []) v o h e)
step-found c n (several is) v o h e = bracket-found c n is v o h e

pub along-found : (c : Catalog) (ts : List Token) (n : Node) (v : Value) (o : Node) → Fits c v (shape_of c n) → node_along c n ts ≡ Some o
    → Found c (value_along v ts) o
unfolding node_along value_along
along-found c [] n v o h e = record { value = v; is = refl; fits = subst (λ k. Fits c v (shape_of c k)) (some_is e) h }
along-found c (t ∷ ts) n v o h e =
    let s = then_some (node_behind c n t.key) (λ k. node_along c k ts) o e in
    found-then c (value_behind v t.key) (λ w. value_along w ts) s.value o (step-found c n t.key v s.value h s.is)
    (λ w f. along-found c ts s.value w o f s.on)

-- the value of a catalog tag
base-found : (c : Catalog) (m : Memory) (t : Text) (n : Node) → MemoryFits c m → called_in t c.tags ≡ Some n → Found c (base_value c m t) n
unfolding base_value and_then
base-found c m t n h e =
    rw e (record { value = m n; is = refl; fits = each-called (λ k. Fits c (m k) (shape_of c k)) t c.tags n h.each e })

-- THEOREM: tokens that lead to a node read to a value, which fits the node
pub read_found : (c : Catalog) (m : Memory) → MemoryFits c m → (ts : List Token) (n : Node) → node_of c ts ≡ Some n → Found c (read_tokens c m ts) n
unfolding node_of read_tokens
read_found c m h [] n e = absurd (none-some e)
read_found c m h (b ∷ ts) n e =
    let s = then_some (called_in b.text c.tags) (λ k. node_along c k ts) n e in
    found-then c (base_value c m b.text) (λ v. value_along v ts) s.value n (base-found c m b.text s.value h s.is)
    (λ w f. along-found c ts s.value w n f s.on)

-- ---- tags
-- the node of a tag that fits
pub record FitNode (c : Catalog) (t : Text) : Type 0 where
  pub node : Node
  pub is : node_of c (tokens_of t) ≡ Some node

pub tag-node : (c : Catalog) (t : Text) → tag_fits c t ≡ true → FitNode c t
unfolding tag_fits holds
tag-node c t e = go (node_of c (tokens_of t)) refl e
  where
    go : (o : Option Node) → node_of c (tokens_of t) ≡ o → holds (λ n. is_empty n.dims) o ≡ true → FitNode c t
    go None q f = absurd (false≢true f)
    go (Some n) q f = record { node = n; is = q }
