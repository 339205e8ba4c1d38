-- Why dual prices are refused.
use Rattle.std.specs.Prelude.{◌≡◌, ◌≢◌, ◌⊎◌, ◌≤◌, ◌<◌, pos, length, unsigned_abs}
use Rattle.std.specs.Int.{bit_at}
use Rattle.std.specs.List.{All}
use Rattle.vrp_model.specs.declared.customers.customer_set.TheConstants.{PLACES}
use Rattle.vrp_model.specs.Problem.{Problem, place_count}
use Rattle.vrp_duals.specs.Duals.{DualsOf, HasRowSize, IsRemembered, price_of}
use Rattle.vrp_duals.specs.declared.fault.DualFault.{DualFault}
use Rattle.vrp_duals.specs.declared.fault.DualFault.TheVariants.{DepotInEntryRow, DepotPrice, EntryPriceTooLarge, OutsideMemory, PriceCount, PriceTooLarge, RowPriceTooLarge, RowSize, ScaleOutOfRange, TooManyEntryRows, TooManyPlaces, TooManySubsetRows}
use Rattle.vrp_duals.specs.declared.limits.TheConstants.{MAX_ENTRY_PRICE, MAX_ENTRY_ROWS, MAX_PRICE, MAX_ROW_PRICE, MAX_SCALE, MAX_SUBSET_ROWS}
use Rattle.vrp_duals.specs.declared.rows.EntryRow.{EntryRow}
use Rattle.vrp_duals.specs.declared.rows.SubsetRow.{SubsetRow}

-- the fault is one of these prices
abbrev pub IsFault : Problem → DualsOf → DualFault → Type 0
IsFault p d TooManyPlaces = PLACES < place_count p
IsFault p d ScaleOutOfRange = (d.scale ≡ 0) ⊎ (MAX_SCALE < d.scale)
IsFault p d PriceCount = length d.prices ≢ place_count p
IsFault p d DepotPrice = price_of d 0 ≢ pos 0
IsFault p d PriceTooLarge = ¬ All (λ price. unsigned_abs price ≤ MAX_PRICE) d.prices
IsFault p d TooManyEntryRows = MAX_ENTRY_ROWS < length d.entries
IsFault p d EntryPriceTooLarge = ¬ All (λ (row : EntryRow). unsigned_abs row.price ≤ MAX_ENTRY_PRICE) d.entries
IsFault p d DepotInEntryRow = ¬ All (λ (row : EntryRow). bit_at row.customers 0 ≡ 0) d.entries
IsFault p d TooManySubsetRows = MAX_SUBSET_ROWS < length d.rows
IsFault p d RowPriceTooLarge = ¬ All (λ (row : SubsetRow). row.price ≤ MAX_ROW_PRICE) d.rows
IsFault p d RowSize = ¬ All HasRowSize d.rows
IsFault p d OutsideMemory = ¬ All IsRemembered d.rows
