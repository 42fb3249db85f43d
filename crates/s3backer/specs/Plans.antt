-- What a disk's plan is made of.
use Rattle.std.specs.Prelude.{ℕ, Bool, true, List}
use Rattle.sb_base.specs.declared.access.StorePlan.{StorePlan}
use Rattle.sb_base.specs.declared.geometry.Geometry.{Geometry}
use Rattle.sb_base.specs.declared.settings.Settings.{Settings}
use Rattle.sb_crew.specs.Bases.{Base}
use Rattle.s3backer.specs.declared.plan.Form.{Form}
use Rattle.sb_crew.specs.Names.{Naming}
use Rattle.sb_crew.specs.Runs.{sizes_of}

-- a plan with its prefix as bytes
pub record PlanParts : Type 0 where
  pub form : Form
  pub store : StorePlan
  pub prefix : List ℕ
  pub hashed : Bool
  pub geometry : Geometry
  pub read_only : Bool

-- the names of its objects, and the sizes that the first one carries
abbrev pub naming_of : PlanParts → Naming
naming_of plan = record { prefix = plan.prefix; hashed = plan.hashed; meta = sizes_of plan.geometry }

-- the settings of every disk: puts of a block are 500 ms apart, the MD5s of the last 10,000 blocks that were put are
-- kept for 10 s, 1,000 blocks are cached, all of which may be dirty, and a stale GET is asked anew for 5 s
abbrev pub default_settings : Settings
default_settings = record {
  min_write_delay = 500;
  md5_time = 10000;
  md5_size = 10000;
  cache_size = 1000;
  write_delay = 250;
  clean_time = 0;
  max_dirty = 0;
  stale_limit = 5000;
  read_ahead = 4;
  read_ahead_trigger = 0;
  threads = 20;
  clients = 4;
}

-- the size and the settings of a plan's disk
abbrev pub plan_base : PlanParts → Base
plan_base plan = record { geometry = plan.geometry; settings = default_settings; alone = true }
