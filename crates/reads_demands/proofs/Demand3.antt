-- Demand 3, whole: the theorem `Demand3Holds`.
use Rattle.reads.specs.Tables.{new_table}
use Rattle.reads_demands.specs.Demand3.{run, Demand3Holds}
use Rattle.reads_demands.proofs.Runs.{sound-valid}
use Rattle.reads_demands.proofs.Says.{follows, says}
use Rattle.reads_demands.proofs.Ends.{ends}
use Rattle.reads_demands.proofs.Frames.{frame, unchanged}
use Rattle.reads_demands.proofs.Delivery.{delivery}

pub demand3 : Demand3Holds
demand3 o cs l =
    record {
      says = says o l cs;
      records = (follows o l cs).records;
      origin = (follows o l cs).sound.origin;
      valid = sound-valid (follows o l cs).sound;
      delivery = λ before rest q tag store₀ out mid b store e a c u w. delivery (follows o l before).sound q tag store₀ out mid b store a c u w;
      ends = λ before rest b store e. ends o l before b store;
      frame = λ before rest b store e. frame (run (new_table o) before) b store;
      unchanged = λ before rest c e n. unchanged (run (new_table o) before) c n;
    }
