-- Demand 3 over files: where a value file that is not refused holds the value of a read, the part that a path of that read cuts out of
-- it is, byte for byte, the value of the path's tag as a file lays it out, from its length field on.
-- Assumes nothing.
use Prim.Native.Nat.{ℕ, ◌+◌, ◌≤◌}
use mathlib.Core.Path.{◌≡◌, refl, sym, ap, ◌∙◌}
use mathlib.Core.List.{List, [], ◌∷◌, append-nil}
use native.Mathlib.Omega.{arith}
use lib.ListN.{length}
use Rattle.std.specs.Prelude.{None, Option, Some, option_map}
use Rattle.fields.specs.Format.{fine, first, given, All, ◌then◌, leading, mapped, many, held}
use Rattle.fields.specs.Fields.{number, numeric, counted, optional}
use Rattle.fields.specs.Files.{ending_check, fields_check}
use Rattle.fields.proofs.Lists.{Bytes}
use Rattle.fields.proofs.Lawful.{first_fine}
use Rattle.catalog.specs.Catalog.{Catalog}
use Rattle.catalog.specs.Check.{Acceptable}
use Rattle.packing.specs.declared.Cost.{Cost}
use Rattle.plans.specs.Plans.{Step, steps, Member, member, Read, read}
use Rattle.plans.proofs.Round.{lawful-steps}
use Rattle.lists.specs.Lists.{TagList, tag_list, longest_list, layout as list_layout}
use Rattle.planner.proofs.Writable.{plan-writable}
use Rattle.planner.specs.Plan.{plan_of}
use Rattle.values.specs.Value.{Value, leads}
use Rattle.values.specs.File.{value_of, layout, most_levels, fields_verdict}
use Rattle.values.specs.Alike.{alike_within, value_verdict}
use Rattle.values.specs.Dig.{path_of, path_verdict, dig_verdict, cut_of}
use Rattle.values.specs.Told.{cut_bytes}
use Rattle.values.proofs.Cutting.{cut-is}
use Rattle.memory.specs.Fitting.{Memory, MemoryFits}
use Rattle.memory.specs.Reading.{read_name}
use Rattle.memory.specs.Demand.{In, here, there, keys_of, TagsFit, Answers, Shows}
use Rattle.memory.proofs.Demand.{demand-3-accepted}

some_same : (v w : Value) → ◌≡◌ {A = Option Value} (Some v) (Some w) → v ≡ w
some_same v w e = cc

-- THEOREM (demand 3, over files, by the place of the cut)
pub demand-3-files : (k : Cost) (c : Catalog) (w : TagList) → Acceptable c → (m : Memory) → MemoryFits c m → (r : Read) → In r (plan_of k c w) → TagsFit c r
    → (s : List ℕ) → Bytes s → value_verdict s ≡ fine → read_name c m r.name ≡ Some (value_of s) → (e : Member) → In e r.members → Answers c m s e
unfolding value_verdict
demand-3-files k c w a m h r i f s b v n e j =
    let l = demand-3-accepted k c w a m h r i f e j in
    let u = first_fine (fields_verdict s) (alike_within most_levels s 1) v in
    let z : value_of s ≡ l.whole = some_same (value_of s) l.whole (sym n ∙ l.reads) in
    record {
      value = l.value;
      alone = l.alone;
      cut = cut-is s b u.0 (keys_of e.path) ∙ ap (λ x. option_map layout (leads (keys_of e.path) x)) z ∙ ap (option_map layout) l.path;
    }

-- ---- `dig` with the path as bytes
-- a path that is laid out reads back, and is not refused
path-back : (ks : List Step) → steps.within ks → (path_of (steps.lay ks) ≡ ks) × (path_verdict (steps.lay ks) ≡ fine)
unfolding path_of path_verdict fields_check ending_check given first
path-back ks h =
    let q : steps.read (steps.lay ks) 0 ≡ given ks [] (0 + length (steps.lay ks)) = ap (λ l. steps.read l 0) (sym (append-nil (steps.lay ks))) ∙ lawful-steps.back ks h [] 0 in
    (ap (λ a. a.value) q, ap fields_check q)

-- the path of a member of a plan that is made is inside the limits of a plan file
no_keys : steps.within []
unfolding counted leading many number numeric
no_keys = (omega arith, (refl, tt))

keys-within : (o : Option (List Step)) → (optional steps).within o → steps.within (keys_of o)
unfolding keys_of optional leading held
keys-within None h = no_keys
keys-within (Some ks) h = h.1.1

in_all : {A : Type 0} (P : A → Type 0) (x : A) (xs : List A) → All P xs → In x xs → P x
in_all {A = A} P x [] h x3 = elim x3 [ ]
in_all P x (y ∷ ys) h (here _ _) = h.0
in_all P x (y ∷ ys) h (there _ _ _ i) = in_all P x ys h.1 i

path-within : (k : Cost) (c : Catalog) (w : TagList) → tag_list.within w → length (list_layout w) ≤ longest_list → (r : Read) → In r (plan_of k c w)
    → (e : Member) → In e r.members → steps.within (keys_of e.path)
unfolding counted leading many read member mapped ◌then◌
path-within k c w h n r i e j =
    let p = (plan-writable k c w h n).0 in
    let q = in_all read.within r (plan_of k c w) p.1.1 i in
    let o = in_all member.within e r.members q.1.1.1 j in
    keys-within e.path o.1

-- THEOREM (demand 3, over files): `dig`, given a value file that is not refused and holds the read's value, and the path as the plan file
-- carries it, hands back byte for byte the value that reading the path's tag alone gives, as a file lays it out
pub demand-3-dug : (k : Cost) (c : Catalog) (w : TagList) → Acceptable c → tag_list.within w → length (list_layout w) ≤ longest_list
    → (m : Memory) → MemoryFits c m → (r : Read) → In r (plan_of k c w) → TagsFit c r
    → (s : List ℕ) → Bytes s → value_verdict s ≡ fine → read_name c m r.name ≡ Some (value_of s) → (e : Member) → In e r.members → Shows c m s e
unfolding dig_verdict cut_of cut_bytes first
demand-3-dug k c w a h n m f r i g s b v x e j =
    let l = demand-3-accepted k c w a m f r i g e j in
    let z : value_of s ≡ l.whole = some_same (value_of s) l.whole (sym x ∙ l.reads) in
    let p = path-back (keys_of e.path) (path-within k c w h n r i e j) in
    record { value = l.value; alone = l.alone; dug = rw (v, p.1, p.0, z, l.path) refl }
