-- Records, each once.
use Rattle.std.proofs.Common.{◌≡◌, ◌≢◌, ℕ, true, List, Some, slice_get, get_or, AllPairs, sym, ap}
use Rattle.std.proofs.Common.{◌∙◌}
use Rattle.std.proofs.lemmas.Bool.{both_ways}
use Rattle.std.proofs.lemmas.Map.Keys.{apart_from_distinct}
use Rattle.std.specs.List.{IsDistinct}
use Rattle.numa_mode.specs.Policy.{PolicyRecord}
use Rattle.numa_space.specs.Exact.{record-exact}
use Rattle.numa_mode.specs.contracts.records.RecordPartialEq.TheImpl as record_test
use Rattle.numa_mode.specs.contracts.records.RecordEq.TheImpl.Laws as record_law

-- records that `==` tells apart are apart
pub unique-pairs : (keys : List PolicyRecord) → IsDistinct record_test.ghosts.eq keys
    → AllPairs (λ earlier later. earlier ≢ later) keys
unique-pairs keys distinct i j d lt short same =
    both_ways (record_test.ghosts.eq (get_or keys i d) (get_or keys j d))
    (apart_from_distinct record_test.ghosts.eq keys i j d distinct lt short)
    (ap (λ x. record_test.ghosts.eq (get_or keys i d) x) (sym same)
    ∙ record_law.laws-law.refl (get_or keys i d))

-- an equal record that is stored is the record
pub stored-is : (keys : List PolicyRecord) (place : ℕ) (r : PolicyRecord)
    → ((k : PolicyRecord) × (slice_get keys place ≡ Some k) × (record_test.ghosts.eq r k ≡ true))
    → slice_get keys place ≡ Some r
stored-is keys place r h = h.1 ∙ ap Some (sym (record-exact r h.0 h.2))
