-- Why a file isn't opened, by the system's error.
use Rattle.std.specs.declared.io.ErrorKind.{ErrorKind}
use Rattle.std.specs.declared.io.ErrorKind.TheVariants as kind
use Rattle.disk_file.specs.declared.failed.OpenFailed.{OpenFailed}
use Rattle.disk_file.specs.declared.failed.OpenFailed.TheVariants.{Refused, OutOfMemory}

-- want of memory is told apart by the error's kind
abbrev pub failed_of : ErrorKind → OpenFailed
failed_of kind.OutOfMemory = OutOfMemory
failed_of _ = Refused
