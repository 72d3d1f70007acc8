-- SAE J1979 (ISO 15031-5), mode 01: how many data bytes a PID has, by what the PIDs are, for those of document 01's table: 00 to 65, 80, A0, C0. The standard has
-- further PIDs (66, 67, A6 and others); their lengths are unknown here, as in document 01.
use Rattle.std.specs.Prelude.{cond, ◌&&◌, List, [], ◌∷◌, ℕ, leb}
use Rattle.std.proofs.Math.Option.{Option, none, some}

-- A row: the PIDs from first to last, of size data bytes each.
pub record Row : Type 0 where
  pub first : ℕ
  pub last : ℕ
  pub size : ℕ

abbrev pids : ℕ → ℕ → ℕ → Row
pids a b n = record { first = a; last = b; size = n }

abbrev rows : List Row
rows =
    pids 0x00 0x00 4 ∷ pids 0x20 0x20 4 ∷ pids 0x40 0x40 4 ∷ pids 0x60 0x60 4 ∷  -- PIDs supported: a bit for each of the next 32
    pids 0x80 0x80 4 ∷ pids 0xA0 0xA0 4 ∷ pids 0xC0 0xC0 4 ∷
    pids 0x01 0x01 4 ∷ pids 0x41 0x41 4 ∷  -- monitor status: since codes cleared, this drive cycle
    pids 0x02 0x02 2 ∷  -- code that caused the freeze frame
    pids 0x03 0x03 2 ∷  -- fuel system status, two systems
    pids 0x04 0x04 1 ∷  -- calculated load
    pids 0x05 0x05 1 ∷  -- coolant temperature
    pids 0x06 0x09 1 ∷  -- fuel trims, short and long term, two banks
    pids 0x0A 0x0A 1 ∷  -- fuel pressure
    pids 0x0B 0x0B 1 ∷  -- intake manifold pressure
    pids 0x0C 0x0C 2 ∷  -- engine speed
    pids 0x0D 0x0D 1 ∷  -- vehicle speed
    pids 0x0E 0x0E 1 ∷  -- timing advance
    pids 0x0F 0x0F 1 ∷  -- intake air temperature
    pids 0x10 0x10 2 ∷  -- air flow
    pids 0x11 0x11 1 ∷  -- throttle position
    pids 0x12 0x12 1 ∷  -- commanded secondary air
    pids 0x13 0x13 1 ∷ pids 0x1D 0x1D 1 ∷  -- oxygen sensors present, two banks and four
    pids 0x14 0x1B 2 ∷  -- oxygen sensors: voltage and trim
    pids 0x1C 0x1C 1 ∷  -- OBD standard
    pids 0x1E 0x1E 1 ∷  -- auxiliary input
    pids 0x1F 0x1F 2 ∷  -- run time since start
    pids 0x21 0x21 2 ∷  -- distance with the lamp on
    pids 0x22 0x23 2 ∷  -- fuel rail pressure, relative and gauge
    pids 0x24 0x2B 4 ∷  -- oxygen sensors: ratio and voltage
    pids 0x2C 0x2D 1 ∷  -- EGR, commanded and error
    pids 0x2E 0x2E 1 ∷  -- evaporative purge
    pids 0x2F 0x2F 1 ∷  -- fuel level
    pids 0x30 0x30 1 ∷  -- warm-ups since codes cleared
    pids 0x31 0x31 2 ∷  -- distance since codes cleared
    pids 0x32 0x32 2 ∷  -- evaporative system pressure
    pids 0x33 0x33 1 ∷  -- barometric pressure
    pids 0x34 0x3B 4 ∷  -- oxygen sensors: ratio and current
    pids 0x3C 0x3F 2 ∷  -- catalyst temperatures
    pids 0x42 0x42 2 ∷  -- module voltage
    pids 0x43 0x43 2 ∷  -- absolute load
    pids 0x44 0x44 2 ∷  -- commanded ratio
    pids 0x45 0x45 1 ∷ pids 0x47 0x4C 1 ∷  -- throttle and pedal positions
    pids 0x46 0x46 1 ∷  -- ambient temperature
    pids 0x4D 0x4E 2 ∷  -- run times: with the lamp on, since codes cleared
    pids 0x4F 0x50 4 ∷  -- maximum values
    pids 0x51 0x51 1 ∷  -- fuel type
    pids 0x52 0x52 1 ∷  -- ethanol
    pids 0x53 0x54 2 ∷  -- evaporative system pressures
    pids 0x55 0x58 2 ∷  -- secondary oxygen trims, two banks each
    pids 0x59 0x59 2 ∷  -- fuel rail pressure, absolute
    pids 0x5A 0x5A 1 ∷  -- pedal position, relative
    pids 0x5B 0x5B 1 ∷  -- hybrid battery
    pids 0x5C 0x5C 1 ∷  -- oil temperature
    pids 0x5D 0x5D 2 ∷  -- injection timing
    pids 0x5E 0x5E 2 ∷  -- fuel rate
    pids 0x5F 0x5F 1 ∷  -- emission requirements
    pids 0x61 0x62 1 ∷  -- torque: driver's demand, actual
    pids 0x63 0x63 2 ∷  -- reference torque
    pids 0x64 0x64 5 ∷  -- percent torque data, five points
    pids 0x65 0x65 2 ∷  -- auxiliary inputs and outputs
    []

-- the size in the row that has the PID
abbrev size_in : ℕ → List Row → Option ℕ
size_in p [] = none
size_in p (r ∷ rs) = cond (leb r.first p && leb p r.last) (some r.size) (size_in p rs)

-- the data bytes of a PID, none where no row has it
unfoldable pub j1979 : ℕ → Option ℕ
j1979 p = size_in p rows
