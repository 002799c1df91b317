-- Records read one after another.
use Rattle.std.proofs.Common.{◌≡◌, ℕ, zero, suc, ◌+◌, ◌-◌, ◌*◌, ◌/◌, ◌<◌, ◌≤◌, List, [], ◌∷◌, length, get_or, take, drop, Ok, Err, Result, sym, refl, ap, ◌∙◌, subst, arith}
use Rattle.std.specs.List.{between, AllByRecursion}
use Rattle.std.proofs.lemmas.List.Edits.{length-between}
use Rattle.std.proofs.ByRecursion.{All-from_get_or}
use Rattle.station.specs.Records.{Records, RecordLaws, IsRecord}
use Rattle.station.specs.declared.records.RecordFault.{RecordFault}
use Rattle.byte_fields.proofs.NumberLaws.{Small, part_small}
use Rattle.block.specs.Layout.{Held}
use Rattle.block.specs.declared.faults.BlockFault.{BlockFault}
use Rattle.block.proofs.Chunks.{length_chunks, chunk_at}
use Rattle.loading.specs.Faults.{load_fault}
use Rattle.loading.specs.Loading.{read_before, read_from, records_of, record_items, kind_records, all_read, all_read_of, block_records, block_items}
use Rattle.loading.specs.declared.faults.LoadCause.TheVariants as cause
use Rattle.loading.specs.declared.faults.LoadFault.{LoadFault}
use Rattle.loading.specs.declared.faults.RecordsFault.{RecordsFault}

-- the bytes of a record that there is, and that they are a record
abbrev pub record_bytes : List ℕ → ℕ → List ℕ
record_bytes bs i = between (16 * i) (16 * i + 16) bs

-- the chunk with that number
pub chunk_here : (bs : List ℕ) (i : ℕ) → i < length bs / 16 → get_or (records_of bs) i [] ≡ record_bytes bs i
chunk_here bs i lt =
    let width : 16 ≡ 16 * i + 16 - 16 * i = omega arith in
    chunk_at 16 (length bs / 16) bs i [] lt ∙ ap (λ w. take w (drop (16 * i) bs)) width

pub here_record : (bs : List ℕ) (i : ℕ) → i < length bs / 16 → Small bs → IsRecord (record_bytes bs i)
here_record bs i lt small =
    let within : 16 * i + 16 ≤ length bs = omega arith in
    let width : 16 * i + 16 - 16 * i ≡ 16 = omega arith in
    record { whole = length-between bs (16 * i) (16 * i + 16) within ∙ width; small = part_small bs (16 * i) (16 * i + 16 - 16 * i) small }

module _ {I : Type 0} (reading : List ℕ → Result I RecordFault) where
  -- Of records that were read, each is the item in its place.
  split_read : (i : ℕ) (y : Result I RecordFault) (rest : Result (List I) RecordsFault) (is : List I) → read_before i y rest ≡ Ok is
      → (x : I) × ((xs : List I) × (y ≡ Ok x) × (rest ≡ Ok xs) × (is ≡ x ∷ xs))
  split_read i (Err f) rest is e = absurd cc
  split_read i (Ok x) (Err f) is e = absurd cc
  split_read i (Ok x) (Ok xs) is e = (x, (xs, refl, refl, cc))

  read_size : (at : ℕ) (records : List (List ℕ)) (is : List I) → read_from reading at records ≡ Ok is → length is ≡ length records
  read_size at [] is e = let same : [] ≡ is = cc in ap length (sym same)
  read_size at (one ∷ rest) is e =
      let s = split_read at (reading one) (read_from reading (at + 1) rest) is e in
      ap length s.1.3 ∙ ap suc (read_size (at + 1) rest s.1.0 s.1.2)

  read_at : (at : ℕ) (records : List (List ℕ)) (is : List I) → read_from reading at records ≡ Ok is → (i : ℕ) → i < length records
      → (x : I) × ((reading (get_or records i []) ≡ Ok x) × ((d : I) → get_or is i d ≡ x))
  read_at at [] is e i lt = absurd (omega arith)
  read_at at (one ∷ rest) is e zero lt =
      let s = split_read at (reading one) (read_from reading (at + 1) rest) is e in
      (s.0, (s.1.1, λ d. ap (λ l. get_or l 0 d) s.1.3))
  read_at at (one ∷ rest) is e (suc i) lt =
      let s = split_read at (reading one) (read_from reading (at + 1) rest) is e in
      let on = read_at (at + 1) rest s.1.0 s.1.2 i (omega arith) in
      (on.0, (on.1.0, λ d. ap (λ l. get_or l (suc i) d) s.1.3 ∙ on.1.1 d))

  pub record ItemAt (is : List I) (i : ℕ) (bs : List ℕ) : Type 0 where
    pub item : I
    pub read : reading (record_bytes bs i) ≡ Ok item
    pub here : (d : I) → get_or is i d ≡ item

module _ {I : Type 0} (r : Records I) (bs : List ℕ) (is : List I) (read : record_items r bs ≡ Ok is) where
  pub items_size : length is ≡ length bs / 16
  items_size = read_size r.reading 0 (records_of bs) is read ∙ length_chunks 16 (length bs / 16) bs

  pub item_at : (i : ℕ) → i < length bs / 16 → ItemAt r.reading is i bs
  item_at i lt =
      let at = read_at r.reading 0 (records_of bs) is read i (rw (length_chunks 16 (length bs / 16) bs) lt) in
      record { item = at.0; read = sym (ap r.reading (chunk_here bs i lt)) ∙ at.1.0; here = at.1.1 }

  pub items_count : {is_item : I → Type 0} → RecordLaws is_item r → Small bs → AllByRecursion is_item is
  items_count {is_item} laws small = counted is (λ i lt d.
      let size = items_size in
      let at = item_at i (omega arith) in
      subst is_item (sym (at.here d)) (laws.read_counts (record_bytes bs i) at.item (here_record bs i (omega arith) small) at.read))
    where
      counted : (xs : List I) → ((i : ℕ) → i < length xs → (d : I) → is_item (get_or xs i d)) → AllByRecursion is_item xs
      counted [] h = tt
      counted (x ∷ xs) h = All-from_get_or is_item (x ∷ xs) x (λ i lt. h i lt x)

-- The items behind the bytes that a block brings, or the same fault.
pub record Brought {I : Type 0} (r : Records I) (x : Result (List I) LoadFault) (bs : List ℕ) : Type 0 where
  pub items : List I
  pub brought : x ≡ Ok items
  pub read : record_items r bs ≡ Ok items

module _ {I : Type 0} (r : Records I) (size : ℕ) where
  read_brought : (bs : List ℕ) (y : Result (List I) RecordsFault) (cs : List ℕ) → record_items r bs ≡ y → all_read size (λ is. bs) y ≡ Ok cs → Brought r (all_read size (λ is. is) y) cs
  read_brought bs (Ok is) cs read e = let same : bs ≡ cs = cc in record { items = is; brought = refl; read = ap (record_items r) (sym same) ∙ read }
  read_brought bs (Err f) cs read e = absurd cc

  brought_of : (k : Result (List ℕ) LoadFault) (cs : List ℕ) → all_read_of r size (λ bs is. bs) k ≡ Ok cs → Brought r (all_read_of r size (λ bs is. is) k) cs
  brought_of (Ok bs) cs e = read_brought bs (record_items r bs) cs refl e
  brought_of (Err f) cs e = absurd cc

  pub items_brought : (held : Result Held BlockFault) (bs : List ℕ) → Ok bs ≡ block_records r size held → Brought r (block_items r size held) bs
  items_brought held bs e = brought_of (kind_records r size held) bs (sym e)

  read_refused : (bs : List ℕ) (y : Result (List I) RecordsFault) (f : LoadFault) → all_read size (λ is. bs) y ≡ Err f → all_read size (λ is. is) y ≡ Err f
  read_refused bs (Ok is) f e = absurd cc
  read_refused bs (Err g) f e = let same : load_fault (cause.Record g) size ≡ f = cc in ap Err same

  refused_of : (k : Result (List ℕ) LoadFault) (f : LoadFault) → all_read_of r size (λ bs is. bs) k ≡ Err f → all_read_of r size (λ bs is. is) k ≡ Err f
  refused_of (Ok bs) f e = read_refused bs (record_items r bs) f e
  refused_of (Err g) f e = let same : g ≡ f = cc in ap Err same

  pub items_refused : (held : Result Held BlockFault) (f : LoadFault) → Err f ≡ block_records r size held → block_items r size held ≡ Err f
  items_refused held f e = refused_of (kind_records r size held) f (sym e)
